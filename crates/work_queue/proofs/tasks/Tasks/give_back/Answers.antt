use Rattle.std.proofs.Common.{◌≡◌, ◌+◌, ◌∙◌, Bool, ap, arith, cond, sym, true, vec_len}
use Rattle.work_queue.specs.Work.{is_out}
use Rattle.work_queue.specs.Keys.{key_of}
use Rattle.work_queue.proofs.Apart.{apart_given_back}
use Rattle.work_queue.proofs.tasks.Tasks.give_back.Goals as goal

pub take_key-requires : goal.take_key-requires
take_key-requires c = λ other. omega (arith, c.self.invariant.0.at_most_one other)

pub invariant_of-self : goal.invariant_of-self
invariant_of-self c =
    let found : c.take_key.result ≡ true =
    c.take_key.ensures.found ∙ ap (λ k. is_out k c.self.inside.out.items) c.key.ensures ∙ ap (λ w. is_out (key_of c.args.task) w.out) c.self.view_is ∙ c.requires in
    let less : vec_len c.take_key.new.out + 1 ≡ vec_len c.self.inside.out =
    ap (λ (b : Bool). vec_len c.take_key.new.out + cond b 1 0) (sym found) ∙ c.take_key.ensures.len in (
      apart_given_back c.self.inside.ready.items c.push_back_reserved.new.self.items c.self.inside.out.items c.take_key.new.out.items c.args.task c.key.result c.take_key.result
          c.take_key.ensures.counts c.key.ensures found c.push_back_reserved.ensures.items c.self.invariant.0,
      omega arith,
      omega arith,
      omega arith,
    )
