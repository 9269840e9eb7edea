use Rattle.std.proofs.Common.{◌≡◌, ℕ, ◌+◌, Bool, List, ◌∷◌, drop, false, length, decimal, subst, sym, ◌∙◌, Ok, rules, arith}
use Rattle.std.proofs.lemmas.List.{drop_more}
use Rattle.std.specs.HashSet.{contains_text}
use Rattle.serde_json.specs.View.{view}
use Rattle.script_model.specs.ScriptData.{resource_key}
use Rattle.script_input.specs.Checked.{below}
use Rattle.script_input.specs.Resources.{is_key_of, resource_at}
use Rattle.script_input.proofs.ItemsLemmas.{one_more_read}
use Rattle.script_input.proofs.ResourceLimits.{one_more_key, one_more_resource}
use Rattle.script_input.proofs.resource.all_resources.Goals as goal

pub loop-i-preserved : goal.loop-i-preserved
loop-i-preserved c =
    let before = c.loop-i.resources.items in
    let resource = c.in_ok-resource.resource in
    let keys : contains_text c.loop-i.taken ≡ is_key_of before = c.loop-i.invariant.keys in
    let new : is_key_of before (resource_key resource) ≡ false = subst (λ (taken : List ℕ → Bool). taken (resource_key resource) ≡ false) keys c.in_ok-resource.ensures.new_key in
    let read = subst (λ (taken : List ℕ → Bool). below (decimal c.loop-i.i) (resource_at (length c.args.values.now) taken (view c.index-values-i.result)) ≡ Ok resource) keys c.in_ok-resource.ensures.gives in
    let front : drop c.loop-i.i c.args.values.now ≡ c.index-values-i.result ∷ drop (c.loop-i.i + 1) c.args.values.now = grind (arith, drop_more) in
    record {
      rest = rw c.in_ok-push.ensures.items (sym (one_more_read (λ before. resource_at (length c.args.values.now) (is_key_of before)) before c.loop-i.i c.args.values.now c.index-values-i.result resource front read) ∙ c.loop-i.invariant.rest);
      keys = rw c.in_ok-push.ensures.items (one_more_key c.loop-i.taken c.take.new.taken before resource keys (λ key. rw (sym c.key_of.ensures) (c.in_ok-take.ensures key)));
      keeps = rw c.in_ok-push.ensures.items (one_more_resource (length c.args.values.now) before resource c.loop-i.invariant.keeps new c.in_ok-resource.ensures.among);
      count = search rules;
    }
