-- What `run` writes: the text of one finished legal history.
use Rattle.std.proofs.Common.{◌≡◌, ◌∙◌, List, sym, ℕ}
use Rattle.history_entry.specs.declared.entry.Entry.{Entry}
use Rattle.history_entry.specs.declared.policy.Policy.TheVariants.{Two}
use Rattle.script_model.specs.ScriptData.{ScriptData}
use Rattle.history_entries.specs.Text.{text_of}
use Rattle.history_steps.specs.Objects.{HasOneSpelling}
use Rattle.history_steps.specs.Run.{Finished, Legal}
use Rattle.history_steps.specs.ScriptLimits.{IsWithinLimits}
use Rattle.service_rule.specs.Store.{store_rule}
use Rattle.browser_cli.specs.Headline.{IsTextOfHistory}

-- the text of a finished legal history is that of no other legal history
pub one_text : (s : ScriptData) (h : List Entry) (text : List ℕ) → HasOneSpelling store_rule s → IsWithinLimits s
    → Legal store_rule s h → Finished store_rule s h → text ≡ text_of Two h → IsTextOfHistory s text h
one_text s h text one limits legal finished is = record {
  legal = legal;
  finished = finished;
  is_text = is;
  only = λ other fits same. one limits Two other h fits legal (sym same ∙ is);
}
