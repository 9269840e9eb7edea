-- What a judge has judged after one more piece, or at the end.
use Rattle.std.proofs.Common.{◌≡◌, ◌≢◌, ℕ, Bool, true, false, Option, Some, None, List, [], ◌++◌, refl, sym, ap, subst, ◌∙◌}
use Rattle.std.proofs.lemmas.List.{append-nil}
use Rattle.std.specs.Option.{option_or, option_map_or}
use Rattle.mime_kind.specs.declared.kind.Kind.{Kind}
use Rattle.mime_kind.specs.Kinds.{kind_of}
use Rattle.corb_sniff.specs.declared.kind.Answer.{Answer}
use Rattle.corb_sniff.specs.declared.kind.Answer.TheVariants as answers
use Rattle.corb_sniff.specs.Answers.{answer_of}
use Rattle.corb_sniff.specs.HasRead.{HasRead}
use Rattle.script_model.specs.declared.verdict.Verdict.{Verdict}
use Rattle.script_model.specs.Verdicts as verdicts
use Rattle.script_model.specs.Verdicts.{sniffed_verdict, sniff_kind, bytes_verdict, early_verdict}
use Rattle.script_model.proofs.Rows.{verdict_by_early, verdict_stays, owns_early, owns_sniffed}
use Rattle.read_verdict.specs.Cases.{Case, verdict_on}
use Rattle.read_verdict.specs.Rulings.{ruling_of, has_own_rule}
use Rattle.read_verdict.specs.HasJudged.{HasJudged}
use Rattle.read_verdict.specs.declared.judge.Judge.{Judge}
use Rattle.read_verdict.specs.declared.ruling.Ruling.TheVariants.{More, Settled}

settled_by : (o : Option Verdict) (v : Verdict) → ruling_of o ≡ Settled v → o ≡ Some v
settled_by (Some w) v h = cc
settled_by None v h = cc

unsettled_by : (o : Option Verdict) → ruling_of o ≡ More → o ≡ None
unsettled_by (Some w) h = cc
unsettled_by None h = refl

neither : (early bytes : Option Verdict) → option_or early bytes ≡ None → early ≡ None
neither (Some v) bytes h = h
neither None bytes h = refl

-- the verdict on a case by its early rows, and else by the bytes
by_early : (case : Case) (bytes : List ℕ) (ended : Bool) → verdict_on case bytes ended ≡ option_or (early_verdict case.policy case.rules case.origin case.chain case.mode case.head) (bytes_verdict (kind_of case.head.fields) bytes ended)
by_early case bytes ended = verdict_by_early case.policy case.rules case.origin case.chain case.mode case.head bytes ended

-- a ruling that is settled stays
pub ruling_stays : (case : Case) (bytes more : List ℕ) (ended : Bool) (v : Verdict) → ruling_of (verdict_on case bytes false) ≡ Settled v → ruling_of (verdict_on case (bytes ++ more) ended) ≡ Settled v
ruling_stays case bytes more ended v h =
    ap ruling_of
    (verdict_stays case.policy case.rules case.origin case.chain case.mode case.head bytes more ended v (settled_by (verdict_on case bytes false) v h))

-- where it is settled, more bytes and the end change nothing
pub HasJudged-settled : (judge : Judge) (case : Case) (bytes more : List ℕ) (ended : Bool) (v : Verdict) → judge.ruling ≡ Settled v → HasJudged judge case bytes false → HasJudged judge case (bytes ++ more) ended
HasJudged-settled judge case bytes more ended v settled old =
    record {
      request = old.request;
      kind = old.kind;
      ruling = settled ∙ sym (ruling_stays case bytes more ended v (sym old.ruling ∙ settled));
      sniffer = λ more. cc;
    }

-- where it is settled, the end changes nothing
pub HasJudged-ended : (judge : Judge) (case : Case) (bytes : List ℕ) (v : Verdict) → judge.ruling ≡ Settled v → HasJudged judge case bytes false → HasJudged judge case bytes true
HasJudged-ended judge case bytes v settled old =
    subst (λ (list : List ℕ). HasJudged judge case list true) (append-nil bytes) (HasJudged-settled judge case bytes [] true v settled old)

-- an answer other than more settles
pub settled_by_answer : (kind : Kind) (answer : Answer) → answer ≢ answers.More → ruling_of (sniffed_verdict kind answer) ≢ More
settled_by_answer kind (answers.Confirmed sniffed) other = λ more. cc
settled_by_answer kind answers.Clear other = λ more. cc
settled_by_answer kind answers.More other = λ more. other refl

ruling_read : (case : Case) (kind : Kind) (list : List ℕ) (ended : Bool) (answer : Answer) → early_verdict case.policy case.rules case.origin case.chain case.mode case.head ≡ None → kind ≡ kind_of case.head.fields → answer ≡ answer_of (sniff_kind kind) list ended → ruling_of (sniffed_verdict kind answer) ≡ ruling_of (verdict_on case list ended)
unfolding bytes_verdict
ruling_read case kind list ended answer none is said =
    ap ruling_of
    (ap (sniffed_verdict kind) said
    ∙ ap (λ k. sniffed_verdict k (answer_of (sniff_kind k) list ended)) is
    ∙ sym (by_early case list ended ∙ ap (λ early. option_or early (bytes_verdict (kind_of case.head.fields) list ended)) none))

-- where it is not, the verdict is that of the sniffer's answer
pub HasJudged-read : (old new : Judge) (case : Case) (bytes list : List ℕ) (ended : Bool) (answer : Answer) → old.ruling ≡ More → HasJudged old case bytes false → answer ≡ answer_of (sniff_kind old.kind) list ended → new.request ≡ old.request → new.kind ≡ old.kind → new.ruling ≡ ruling_of (sniffed_verdict old.kind answer) → (new.ruling ≡ More → HasRead new.sniffer (sniff_kind old.kind) list) → HasJudged new case list ended
HasJudged-read old new case bytes list ended answer unsettled judged said same_request same_kind told reads =
    let none : verdict_on case bytes false ≡ None = unsettled_by (verdict_on case bytes false) (sym judged.ruling ∙ unsettled) in
    record {
      request = same_request ∙ judged.request;
      kind = same_kind ∙ judged.kind;
      ruling = told ∙ ruling_read case old.kind list ended answer
          (neither _ _ (sym (by_early case bytes false) ∙ none)) judged.kind said;
      sniffer = λ more. subst (λ (k : Kind). HasRead new.sniffer (sniff_kind k) list) (sym same_kind) (reads more);
    }

-- a judge that was fed nothing
pub HasJudged-new : (judge : Judge) (case : Case) (early : Option Verdict) (answer : Answer) → judge.request ≡ case.request → judge.kind ≡ kind_of case.head.fields → early ≡ early_verdict case.policy case.rules case.origin case.chain case.mode case.head → answer ≡ answer_of (sniff_kind judge.kind) [] false → judge.ruling ≡ ruling_of (option_or early (sniffed_verdict judge.kind answer)) → HasRead judge.sniffer (sniff_kind judge.kind) [] → HasJudged judge case [] false
unfolding bytes_verdict
HasJudged-new judge case early answer same_request same_kind is said told reads = record {
  request = same_request;
  kind = same_kind;
  ruling =
      told
      ∙ ap ruling_of
      (ap (λ e. option_or e (sniffed_verdict judge.kind answer)) is
      ∙ ap (λ a. option_or (early_verdict case.policy case.rules case.origin case.chain case.mode case.head) (sniffed_verdict judge.kind a)) said
      ∙ ap (λ k. option_or (early_verdict case.policy case.rules case.origin case.chain case.mode case.head) (sniffed_verdict k (answer_of (sniff_kind k) [] false))) same_kind
      ∙ sym (by_early case [] false));
  sniffer = λ more. reads;
}

-- the verdict, if there is one, has its own rule
abbrev owns : Option Verdict → Bool
owns v = option_map_or verdicts.has_own_rule v true

owned : (o : Option Verdict) → owns o ≡ true → has_own_rule (ruling_of o) ≡ true
owned (Some v) h = h
owned None h = refl

pub owned_sniffed : (kind : Kind) (answer : Answer) → has_own_rule (ruling_of (sniffed_verdict kind answer)) ≡ true
owned_sniffed kind answer = owned _ (owns_sniffed kind answer)

owns_either : (early bytes : Option Verdict) → owns early ≡ true → owns bytes ≡ true → owns (option_or early bytes) ≡ true
owns_either (Some v) bytes first second = first
owns_either None bytes first second = second

-- what a new judge holds has its own rule
pub owned_new : (case : Case) (early : Option Verdict) (kind : Kind) (answer : Answer) → early ≡ early_verdict case.policy case.rules case.origin case.chain case.mode case.head → has_own_rule (ruling_of (option_or early (sniffed_verdict kind answer))) ≡ true
owned_new case early kind answer is =
    owned _ (owns_either early _ (ap owns is ∙ owns_early case.policy case.rules case.origin case.chain case.mode case.head) (owns_sniffed kind answer))
