use Rattle.std.proofs.Common.{◌≡◌, ℕ, ◌+◌, ◌-◌, List, ◌++◌, take, drop, true, sym, ap, subst, ◌∙◌, arith}
use Rattle.std.specs.List.{slice_range}
use Rattle.std.proofs.Math.Seq.{take-add}
use Rattle.std.proofs.lemmas.List.{take_all}
use Rattle.corb_sniff.specs.HasRead.{HasRead}
use Rattle.corb_sniff.specs.Answers.{answer_of}
use Rattle.sniff_bench.proofs.feeding.sniff_in_pieces.Goals as goal

-- one more piece of n bytes
take-slice_range : (xs : List ℕ) (start n : ℕ) → take start xs ++ slice_range xs start (start + n) ≡ take (start + n) xs
take-slice_range xs start n =
    let e : start + n - start ≡ n = omega arith in
    ap (λ k. take start xs ++ take k (drop start xs)) e ∙ sym (take-add start n xs)

pub loop-start-preserved : goal.loop-start-preserved
loop-start-preserved c =
    subst (λ (l : List ℕ). HasRead c.feed-answer.new.self c.args.kind l)
    (take-slice_range c.args.body.now c.loop-start.start c.min.result)
    (c.feed-answer.ensures.read c.args.kind _ c.loop-start.invariant)

pub returns : goal.returns
returns c =
    subst (λ (l : List ℕ). c.finish.result ≡ answer_of c.args.kind l true)
    (take_all c.loop-start.start c.args.body.now (omega arith))
    (c.finish.ensures.answer c.args.kind _ c.loop-start.invariant)
