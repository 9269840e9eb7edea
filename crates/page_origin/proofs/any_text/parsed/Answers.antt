use Rattle.std.proofs.Common.{ap, sym, ◌∙◌}
use Rattle.std.specs.Result.{result_ok}
use Rattle.page_origin.specs.PageUrls.{parts_of}
use Rattle.page_origin.proofs.PageUrlLemmas.{parses_again, no_parts}
use Rattle.page_origin.proofs.any_text.parsed.Goals as goal

pub returns-in-Ok-clause-parts : goal.returns-in-Ok-clause-parts
unfolding parts_of
returns-in-Ok-clause-parts c = sym (ap result_ok c.in-Ok.ensures)

pub returns-in-Ok-clause-again : goal.returns-in-Ok-clause-again
returns-in-Ok-clause-again c = parses_again c.args.text.now c.in-Ok.url c.as_str-valid.ensures.valid c.in-Ok.ensures

pub returns-in_default : goal.returns-in_default
returns-in_default c = record {
  parts = sym (no_parts c.args.text.now c.in-Err.error c.in-Err.ensures (λ out. c.in_default.not-NoMemory (c.refusal.ensures ∙ out)));
  again = tt;
}
