use Rattle.std.proofs.Common.{◌≡◌, ℕ, ◌+◌, ◌<◌, List, [], ◌∷◌, ◌++◌, length, get_or, take, true, sym, ap, subst, ◌∙◌, arith}
use Rattle.std.specs.List.{flat_map}
use Rattle.std.proofs.lemmas.List.{take_more, take_all, flat_map_more}
use Rattle.corb_sniff.specs.Answers.{answer_of}
use Rattle.corb_sniff.specs.HasRead.{HasRead}
use Rattle.corb_sniff.proofs.whole.sniff.Goals as goal

-- one more piece
one_more : {X : Type 0} (f : X → List ℕ) (xs : List X) (i : ℕ) (x : X) (text : List ℕ) → i < length xs → x ≡ get_or xs i x → text ≡ f x → flat_map f (take i xs) ++ text ≡ flat_map f (take (i + 1) xs)
one_more f xs i x text h is same =
    ap (λ l. flat_map f (take i xs) ++ l) same ∙ flat_map_more f [] (take i xs) x
    ∙ ap (λ y. flat_map f (take i xs ++ y ∷ [])) is ∙ ap (flat_map f) (sym (take_more xs i x h))

pub loop-piece-preserved : goal.loop-piece-preserved
loop-piece-preserved c =
    subst (λ (l : List ℕ). HasRead c.feed-answer.new.self c.args.kind l)
    (one_more (λ piece. piece.items) c.args.pieces.now c.loop-piece.piece-index c.piece-item.result c.deref.result.now (omega arith) c.piece-item.is c.deref.ensures.value)
    (c.feed-answer.ensures.read c.args.kind _ c.loop-piece.invariant)

pub returns : goal.returns
returns c =
    subst (λ l. c.finish.result ≡ answer_of c.args.kind (flat_map (λ piece. piece.items) l) true)
    (take_all c.loop-piece.piece-index c.args.pieces.now (omega arith))
    (c.finish.ensures.answer c.args.kind _ c.loop-piece.invariant)
