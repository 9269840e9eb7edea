use Rattle.std.proofs.Common.{◌≡◌, ◌++◌, ◌∷◌, ◌∙◌, [], ap, arith, false, length}
use Rattle.std.specs.Prelude.{◌||◌}
use Rattle.std.proofs.lemmas.Bool.{or_parts}
use Rattle.work_queue.specs.Keys.{key_of}
use Rattle.work_queue.specs.Work.{has_task, is_out, is_ready}
use Rattle.work_queue.proofs.Apart.{apart_offered}
use Rattle.work_queue.proofs.tasks.Tasks.offer.Goals as goal

pub invariant_of-self-2 : goal.invariant_of-self-2
invariant_of-self-2 c =
    let new : (is_ready (key_of c.args.task) c.self.inside.ready.items || is_out (key_of c.args.task) c.self.inside.out.items) ≡ false =
    ap (λ w. has_task (key_of c.args.task) w) c.self.view_is ∙ c.requires.new in
    let neither = or_parts (is_ready (key_of c.args.task) c.self.inside.ready.items) (is_out (key_of c.args.task) c.self.inside.out.items) new in
    let ready : length c.self.inside.ready.items ≡ length c.args.self.now.ready = ap (λ w. length w.ready) c.self.view_is in
    let out : length c.self.inside.out.items ≡ length c.args.self.now.out = ap (λ w. length w.out) c.self.view_is in (
      apart_offered c.self.inside.ready.items c.push_back_reserved.new.self.items c.self.inside.out.items c.make_room.new.out.items c.args.task neither.0 neither.1
          (c.push_back_reserved.ensures.items ∙ ap (λ xs. xs ++ c.args.task ∷ []) c.in_ok-make_room.ensures.ready) c.in_ok-make_room.ensures.out c.self.invariant.0,
      omega (arith, c.in_ok-make_room.ensures.room),
      omega (arith, c.in_ok-make_room.ensures.room),
      omega (arith, c.in_ok-make_room.ensures.room),
    )
