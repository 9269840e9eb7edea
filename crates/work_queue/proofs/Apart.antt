-- Of each key at most one task is ready or out, also after each change.
use Rattle.std.proofs.Common.{◌≡◌, ◌+◌, ◌≤◌, ◌∷◌, ◌++◌, ◌∙◌, [], ℕ, Bool, List, ap, arith, cond, false, refl, sym, true}
use Rattle.std.specs.Prelude.{count_by}
use Rattle.std.specs.Bool.{OnFalse}
use Rattle.std.proofs.lemmas.Bool.{OnFalse_at, OnFalse_from, or_left, or_right}
use Rattle.work_queue.specs.declared.task.Task.{Task}
use Rattle.work_queue.specs.declared.task.TaskKey.{TaskKey}
use Rattle.work_queue.specs.Keys.{key_of, same_key}
use Rattle.work_queue.specs.Work.{AreApart, SameTasks, Work, has_key, is_out, is_ready}
use Rattle.work_queue.proofs.AtMostOne.{count_push, none_counted}
use Rattle.work_queue.proofs.Same.{key_is, same_key-refl}

-- the same tasks
pub apart_same : (ready ready' : List Task) (out out' : List TaskKey) → ready' ≡ ready → out' ≡ out → AreApart ready out → AreApart ready' out'
apart_same ready ready' out out' a b apart = rw (a, b) apart

-- a ready task goes out
pub apart_claimed : (old new : List Task) (out out' : List TaskKey) (task : Task) (key : TaskKey) → ((other : TaskKey) → count_by (has_key other) new + cond (has_key other task) 1 0 ≡ count_by (has_key other) old) → key ≡ key_of task → out' ≡ out ++ key ∷ [] → AreApart old out → AreApart new out'
apart_claimed old new out out' task key counts of added apart = record {
  at_most_one = λ other.
      let more : count_by (same_key other) out' ≡ count_by (same_key other) out + cond (same_key other (key_of task)) 1 0 =
      ap (count_by (same_key other)) (added ∙ ap (λ k. out ++ k ∷ []) of) ∙ count_push (same_key other) out (key_of task) in
      omega (arith, counts other, apart.at_most_one other);
}

-- a task that was out is ready again
pub apart_given_back : (ready ready' : List Task) (old new : List TaskKey) (task : Task) (key : TaskKey) (found : Bool) → ((other : TaskKey) → count_by (same_key other) new + cond found (cond (same_key other key) 1 0) 0 ≡ count_by (same_key other) old) → key ≡ key_of task → found ≡ true → ready' ≡ ready ++ task ∷ [] → AreApart ready old → AreApart ready' new
apart_given_back ready ready' old new task key found counts of is added apart = record {
  at_most_one = λ other.
      let more : count_by (has_key other) ready' ≡ count_by (has_key other) ready + cond (has_key other task) 1 0 =
      ap (count_by (has_key other)) added ∙ count_push (has_key other) ready task in
      let less : count_by (same_key other) new + cond (same_key other (key_of task)) 1 0 ≡ count_by (same_key other) old =
      ap (λ k. count_by (same_key other) new + cond (same_key other k) 1 0) (sym of) ∙ ap (λ (b : Bool). count_by (same_key other) new + cond b (cond (same_key other key) 1 0) 0) (sym is) ∙ counts other in
      omega (arith, apart.at_most_one other);
}

fewer_step : (found : Bool) (m n k : ℕ) → m + cond found k 0 ≡ n → m ≤ n
fewer_step true m n k is = omega arith
fewer_step false m n k is = omega arith

-- fewer are out
pub apart_done : (ready : List Task) (old new : List TaskKey) (key : TaskKey) (found : Bool) → ((other : TaskKey) → count_by (same_key other) new + cond found (cond (same_key other key) 1 0) 0 ≡ count_by (same_key other) old) → AreApart ready old → AreApart ready new
apart_done ready old new key found counts apart = record {
  at_most_one = λ other.
      let fewer : count_by (same_key other) new ≤ count_by (same_key other) old =
      fewer_step found (count_by (same_key other) new) (count_by (same_key other) old) (cond (same_key other key) 1 0) (counts other) in
      omega (arith, apart.at_most_one other);
}

one_or_none : (b : Bool) (n ready out : ℕ) → n ≡ ready + cond b 1 0 → ready + out ≤ 1 → (b ≡ true → ready + out ≡ 0) → n + out ≤ 1
one_or_none true n ready out is few new = let none : ready + out ≡ 0 = new refl in omega arith
one_or_none false n ready out is few new = omega arith

none_of : (ready : List Task) (out : List TaskKey) (key : TaskKey) → is_ready key ready ≡ false → is_out key out ≡ false → count_by (has_key key) ready + count_by (same_key key) out ≡ 0
none_of ready out key a b = omega (arith, none_counted (has_key key) ready a, none_counted (same_key key) out b)

-- a task of a new key is ready
pub apart_offered : (ready ready' : List Task) (out out' : List TaskKey) (task : Task) → is_ready (key_of task) ready ≡ false → is_out (key_of task) out ≡ false → ready' ≡ ready ++ task ∷ [] → out' ≡ out → AreApart ready out → AreApart ready' out'
apart_offered ready ready' out out' task a b added same apart =
    apart_same (ready ++ task ∷ []) ready' out out' added same (record {
      at_most_one = λ other.
          one_or_none (has_key other task) (count_by (has_key other) (ready ++ task ∷ [])) (count_by (has_key other) ready) (count_by (same_key other) out)
          (count_push (has_key other) ready task) (apart.at_most_one other)
          (λ is. rw (key_is other (key_of task) is) (none_of ready out (key_of task) a b));
    })

-- where no key was taken, the same tasks are ready and out
pub same_if_absent : (found : Bool) (old new : Work) (out : List TaskKey) → new.ready ≡ old.ready → OnFalse found (new.out ≡ out) → out ≡ old.out → OnFalse found (SameTasks old new)
same_if_absent found old new out ready absent is = OnFalse_from found (SameTasks old new) (λ no. record { ready = ready; out = OnFalse_at no absent ∙ is })

-- the key of a task that was handed out is out, as `give_back` wants
pub claimed_is_out : (out : List TaskKey) (key : TaskKey) → is_out key (out ++ key ∷ []) ≡ true
claimed_is_out [] key = or_left (same_key key key) false (same_key-refl key)
claimed_is_out (other ∷ out) key = or_right (same_key key other) (is_out key (out ++ key ∷ [])) (claimed_is_out out key)
