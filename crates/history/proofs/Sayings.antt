-- What a document says is what it says next, with its judgement.
use Rattle.std.proofs.Common.{◌≡◌, Bool, List, None, Option, Some, false, refl, true, ℕ}
use Rattle.std.specs.Prelude.{cond, option_and_then}
use Rattle.std.specs.Option.{option_map}
use Rattle.history_entry.specs.declared.entry.Entry.{Entry}
use Rattle.service_rule.specs.Services.{ServiceRule}
use Rattle.script_model.specs.ScriptData.{ScriptData}
use Rattle.history_rules.specs.Documents.{is_current, process_of}
use Rattle.history_rules.specs.Processes.{is_locked}
use Rattle.history_rules.specs.Sights.{next_act}
use Rattle.history_rules.specs.declared.act.Act.{Act}
use Rattle.history_rules.specs.declared.act.Act.TheVariants.{Crash as Crashes, Done, Message as Sends, Recv as Receives, Skip, Wait as Waits}
use Rattle.history_steps.specs.MayFollow.{said_in, said_next, said_of}
use Rattle.history.specs.Sayings.{judged, saying_in, saying_next, saying_of}

where_true : {A B : Type 0} (f : A → B) (b : Bool) (x : Option B) (y : Option A) → x ≡ option_map f y → cond b x None ≡ option_map f (cond b y None)
where_true f true x y same = same
where_true f false x y same = refl

of_some : {A B : Type 0} (f : A → B) (x : ℕ → Option B) (y : ℕ → Option A) (o : Option ℕ) → ((p : ℕ) → x p ≡ option_map f (y p))
    → option_and_then x o ≡ option_map f (option_and_then y o)
of_some f x y None same = refl
of_some f x y (Some p) same = same p

act_is_judged : (rule : ServiceRule) (s : ScriptData) (h : List Entry) (p d : ℕ) (act : Act)
    → said_of rule s h p d act ≡ option_map (judged rule s h) (saying_of h p d act)
act_is_judged rule s h p d (Sends m) = refl
act_is_judged rule s h p d Waits = refl
act_is_judged rule s h p d Receives = refl
act_is_judged rule s h p d Crashes = refl
act_is_judged rule s h p d Skip = refl
act_is_judged rule s h p d Done = refl

in_is_judged : (rule : ServiceRule) (s : ScriptData) (h : List Entry) (d p : ℕ)
    → said_in rule s h d p ≡ option_map (judged rule s h) (saying_in s h d p)
unfolding said_in saying_in
in_is_judged rule s h d p = where_true (judged rule s h) (is_locked h p) (said_of rule s h p d (next_act s h d)) (saying_of h p d (next_act s h d))
    (act_is_judged rule s h p d (next_act s h d))

pub said_is_judged : (rule : ServiceRule) (s : ScriptData) (h : List Entry) (d : ℕ)
    → said_next rule s h d ≡ option_map (judged rule s h) (saying_next s h d)
unfolding said_next saying_next
said_is_judged rule s h d = where_true (judged rule s h) (is_current s h d) (option_and_then (said_in rule s h d) (process_of h d))
    (option_and_then (saying_in s h d) (process_of h d))
    (of_some (judged rule s h) (said_in rule s h d) (saying_in s h d) (process_of h d) (in_is_judged rule s h d))
