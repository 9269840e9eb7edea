use Rattle.std.proofs.Common.{◌≡◌, [], refl}
use Rattle.std.specs.Option.{option_or}
use Rattle.script_model.specs.Verdicts.{sniffed_verdict}
use Rattle.read_verdict.specs.Cases.{Case}
use Rattle.read_verdict.specs.Rulings.{ruling_of}
use Rattle.read_verdict.proofs.Judging.{HasJudged-new, owned_new}
use Rattle.read_verdict.proofs.judge.Judge.new.Goals as goal

pub invariant_of-result : goal.invariant_of-result
invariant_of-result c =
    let case : Case = record { rules = c.args.rules.now; policy = c.args.policy; request = c.args.request; origin = c.args.origin.now; chain = c.args.chain.now; mode = c.args.mode; head = c.args.head.now } in
    let told : c.ruling_of.result ≡ ruling_of (option_or c.in_ok-early.early (sniffed_verdict c.kind_of-kind.result c.feed-answer.result)) = cc in
    record { own_rule = rw told (owned_new case c.in_ok-early.early c.kind_of-kind.result c.feed-answer.result c.in_ok-early.ensures) }

pub returns : goal.returns
returns c =
    let case : Case = record { rules = c.args.rules.now; policy = c.args.policy; request = c.args.request; origin = c.args.origin.now; chain = c.args.chain.now; mode = c.args.mode; head = c.args.head.now } in
    let told : c.ruling_of.result ≡ ruling_of (option_or c.in_ok-early.early (sniffed_verdict c.kind_of-kind.result c.feed-answer.result)) = cc in
    HasJudged-new _ case c.in_ok-early.early c.feed-answer.result refl c.kind_of-kind.ensures c.in_ok-early.ensures
    (rw (← c.sniff_kind.ensures) (c.feed-answer.ensures.answer c.sniff_kind.result [] c.new-sniffer.ensures)) told
    (rw (← c.sniff_kind.ensures) (c.feed-answer.ensures.read c.sniff_kind.result [] c.new-sniffer.ensures))
