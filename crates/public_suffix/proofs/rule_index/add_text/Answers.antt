use Rattle.std.proofs.Common.{true, ◌∙◌}
use Rattle.std.specs.Prelude.{string_bytes}
use Rattle.std.proofs.lemmas.Map.Text.{hash_set_updates_text}
use Rattle.public_suffix.proofs.IndexLemmas.{or_equal}
use Rattle.public_suffix.proofs.rule_index.add_text.Goals as goal

pub returns : goal.returns
returns c = λ asked.
    hash_set_updates_text (string_bytes c.in_ok-from_str.field-0) c.args.texts.now c.insert.new.self true c.in_ok-insert.ensures.updates asked
    ∙ or_equal asked (string_bytes c.in_ok-from_str.field-0) c.args.text.now _ c.in_ok-from_str.ensures.ok
