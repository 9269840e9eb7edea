-- What a pass has seen after its calls.
use Rattle.std.proofs.Common.{ap, inl, inr, refl, subst, sym, ◌∙◌}
use Rattle.std.specs.Prelude.{◌∷◌, [], List, Err, IfErr, IfOk, Ok, Result}
use Rattle.history_entry.specs.declared.entry.Entry.{Entry}
use Rattle.policy_table.proofs.Lists.{starts_with_itself, starts_with_start}
use Rattle.policy_table.specs.Histories.{StartsWith}
use Rattle.policy_table.specs.Known.{CallsAt, Finds, Known, Looks}
use Rattle.script_model.specs.ScriptData.{ScriptData}
use Rattle.service_rule.specs.Services.{ServiceRule}
use Rattle.browser_workers.specs.Asking.{Does, IsTold}
use Rattle.browser_workers.specs.Passes.{HasGoneOn}
use Rattle.browser_workers.specs.declared.asking.Ask.{Ask}
use Rattle.browser_workers.specs.declared.asking.Told.{Told}

pub stays : (a : Known Entry) → HasGoneOn a a
stays a = record { desk = refl; weight = refl; seen = starts_with_itself a.seen }

pub goes_on : (a b c : Known Entry) → HasGoneOn a b → HasGoneOn b c → HasGoneOn a c
goes_on a b c first second = record {
  desk = second.desk ∙ first.desk;
  weight = second.weight ∙ first.weight;
  seen = starts_with_start a.seen b.seen c.seen first.seen second.seen;
}

-- it looked at a row
pub looked : (a b : Known Entry) → Looks a b → HasGoneOn a b
looked a b looks = record {
  desk = ap (λ (k : Known Entry). k.desk) looks.rest;
  weight = ap (λ (k : Known Entry). k.weight) looks.rest;
  seen = looks.finds.begins;
}

-- a call was made at a history that it found
pub called : (found : List Entry) (a b : Known Entry) → Finds a found → CallsAt found a b → HasGoneOn a b
called found a b finds (inl same) = record {
  desk = ap (λ (k : Known Entry). k.desk) same;
  weight = ap (λ (k : Known Entry). k.weight) same;
  seen = subst (λ (h : List Entry). StartsWith h a.seen) (sym (ap (λ (k : Known Entry). k.seen) same)) finds.begins;
}
called found a b finds (inr adds) = record {
  desk = ap (λ (k : Known Entry). k.desk) adds.1;
  weight = ap (λ (k : Known Entry). k.weight) adds.1;
  seen = starts_with_start a.seen found b.seen finds.begins (adds.0.0 ∷ [], adds.0.1);
}

-- a call was made, or found no memory
module _ {A F : Type 0} (does : List Entry → A → List Entry → Type 0) (a b : Known Entry) where
  pub acted : (r : Result A F) → IfOk r (λ x. (found : List Entry) × Finds a found × CallsAt found a b × does found x b.seen) → IfErr r (λ e. Looks a b) → HasGoneOn a b
  acted (Ok x) done none = called done.0 a b done.1 done.2
  acted (Err e) done none = looked a b none

-- and what was told of it
pub was_told : {F : Type 0} (rule : ServiceRule) (s : ScriptData) (ask : Ask) (a b : Known Entry) (r : Result Told F)
    → IfOk r (λ x. (found : List Entry) × Finds a found × CallsAt found a b × Does rule s found ask x b.seen) → IfOk r (λ x. IsTold rule s a.seen ask x b.seen)
was_told rule s ask a b (Ok x) done = record { found = done.0; begins = done.1.begins; does = done.3 }
was_told rule s ask a b (Err e) done = tt
