use Rattle.std.proofs.Common.{◌≡◌, ◌∙◌, ◌+◌, ◌<◌, ◌≤◌, ap, get_or, length, subst, sym}
use Rattle.history_rules.specs.Requests.{is_read_web}
use Rattle.request_facts.proofs.ReadSoFar.{IsReadSoFar, read_more, read_stops, read_whole}
use Rattle.request_facts.proofs.verdicts.read_chain.Goals as goal

pub returns : goal.returns
returns c =
    let over = subst (λ xs. length xs ≤ c.loop-text.text-index) c.as_slice-text-items.ensures c.loop-text-test.false in
    read_whole c.args.chain.now c.loop-text.urls.items c.loop-text.text-index c.loop-text.invariant over

pub returns-then-not-branch : goal.returns-then-not-branch
returns-then-not-branch c =
    let within = subst (λ xs. c.loop-text.text-index < length xs) c.as_slice-text-items.ensures c.loop-text-test.true in
    let is = subst (λ xs. c.text-item.result ≡ get_or xs c.loop-text.text-index c.text-item.result) c.as_slice-text-items.ensures c.text-item.is in
    let bad = ap is_read_web (sym c.as_str.ensures) ∙ sym c.in_ok-push_read.ensures.read ∙ c.if-not-branch.true in
    read_stops c.args.chain.now c.loop-text.urls.items c.loop-text.text-index c.text-item.result c.loop-text.invariant within is bad

pub loop-text-preserved : goal.loop-text-preserved
loop-text-preserved c =
    let within = subst (λ xs. c.loop-text.text-index < length xs) c.as_slice-text-items.ensures c.loop-text-test.true in
    let is = subst (λ xs. c.text-item.result ≡ get_or xs c.loop-text.text-index c.text-item.result) c.as_slice-text-items.ensures c.text-item.is in
    let shown = subst (λ t. t ≡ get_or c.args.chain.now c.loop-text.text-index t) (sym c.as_str.ensures) is in
    let read = sym c.in_ok-push_read.ensures.read ∙ c.if-not-branch.false in
    subst (λ xs. IsReadSoFar c.args.chain.now (c.loop-text.text-index + 1) xs) (sym (c.in_ok-push_read.ensures.added c.if-not-branch.false))
    (read_more c.args.chain.now c.loop-text.urls.items c.loop-text.text-index c.as_str.result.now c.loop-text.invariant within shown read (c.in_ok-push_read.ensures.web c.if-not-branch.false))
