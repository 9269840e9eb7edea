-- What is left where a task or a key is taken out.
use Rattle.std.proofs.Common.{◌≡◌, ◌+◌, ◌<◌, ◌≤◌, ◌∙◌, ℕ, List, None, Option, Some, ap, arith, cond, false, get_or, inl, inr, length, refl, sym, true}
use Rattle.std.specs.Prelude.{IfSome, OnSome, count_by, is_some, position, remove, slice_get, unwrap_or}
use Rattle.std.proofs.lemmas.Bool.{cases_lt, false≢true}
use Rattle.std.proofs.lemmas.Option.{slice_get_past, slice_get_read}
use Rattle.work_queue.specs.declared.task.Kind.{Kind}
use Rattle.work_queue.specs.declared.task.Task.{Task}
use Rattle.work_queue.specs.declared.task.TaskKey.{TaskKey}
use Rattle.work_queue.specs.Claims.{Takes, TakesOne}
use Rattle.work_queue.specs.Keys.{is_of, key_of, same_key}
use Rattle.work_queue.specs.Work.{has_key, without_key}
use Rattle.work_queue.proofs.AtMostOne.{Found, count_remove, first_at, found_at, none_first, remove_is_filter}
use Rattle.work_queue.proofs.Same.{key_is, same_key-refl}

takes_at : (kind : Kind) (old new : List Task) (task : Task) → slice_get old (unwrap_or (position (is_of kind) old) 0) ≡ Some task → new ≡ remove old (unwrap_or (position (is_of kind) old) 0) → ((key : TaskKey) → count_by (has_key key) old ≤ 1) → TakesOne kind old new task
takes_at kind old new task at is few =
    let place : ℕ = unwrap_or (position (is_of kind) old) 0 in
    record {
      chosen = first_at (is_of kind) old ∙ at;
      rest = is ∙ remove_is_filter (has_key (key_of task)) old place task at (same_key-refl (key_of task)) (few (key_of task));
      counts = λ key. ap (λ xs. count_by (has_key key) xs + cond (has_key key task) 1 0) is ∙ count_remove (has_key key) old place task at;
    }

-- what a removal at the place for a kind says
pub taken : (kind : Kind) (old new : List Task) (count place : ℕ) (result : Option Task) → place ≡ unwrap_or (position (is_of kind) old) 0 → count ≡ length old → IfSome result (λ task. task ≡ get_or old place task) → OnSome result (new ≡ remove old place) → (is_some result ≡ true → place < count) → (place < count → is_some result ≡ true) → ((key : TaskKey) → count_by (has_key key) old ≤ 1) → Takes kind old new result
taken kind old new count place (Some task) is all value items within some few =
    let at : slice_get old place ≡ Some task = slice_get_read old count place task all (within refl) value in
    takes_at kind old new task (ap (slice_get old) (sym is) ∙ at) (items ∙ ap (remove old) is) few
taken kind old new count place None is all value items within some few =
    none_first (is_of kind) old (ap (slice_get old) (sym is) ∙ slice_get_past old place (not_within count place (length old) all some))
  where
    not_within : (count place len : ℕ) → count ≡ len → (place < count → false ≡ true) → len ≤ place
    not_within count place len all some = elim (cases_lt place count) [ inl lt ↦ absurd (false≢true (some lt)) | inr le ↦ omega arith ]

-- what a removal of a key says
pub key_rest : (key : TaskKey) (old new : List TaskKey) (place : ℕ) → position (same_key key) old ≡ Some place → new ≡ remove old place → ((other : TaskKey) → count_by (same_key other) old ≤ 1) → new ≡ without_key key old
key_rest key old new place is items few =
    let found : Found (same_key key) old place = found_at (same_key key) old place is in
    items ∙ remove_is_filter (same_key key) old place found.item found.at found.passes (few key)

pub key_counts : (key : TaskKey) (old new : List TaskKey) (place : ℕ) → position (same_key key) old ≡ Some place → new ≡ remove old place → (other : TaskKey) → count_by (same_key other) new + cond (same_key other key) 1 0 ≡ count_by (same_key other) old
key_counts key old new place is items other =
    let found : Found (same_key key) old place = found_at (same_key key) old place is in
    ap (λ xs. count_by (same_key other) xs + cond (same_key other key) 1 0) items
    ∙ ap (λ k. count_by (same_key other) (remove old place) + cond (same_key other k) 1 0) (key_is key found.item found.passes)
    ∙ count_remove (same_key other) old place found.item found.at
