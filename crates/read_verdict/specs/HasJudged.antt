-- What a judge has judged. Its calls are stated over this word.
use Rattle.std.specs.Prelude.{◌≡◌, ℕ, Bool, List}
use Rattle.mime_kind.specs.Kinds.{kind_of}
use Rattle.corb_sniff.specs.HasRead.{HasRead}
use Rattle.script_model.specs.Verdicts.{sniff_kind}
use Rattle.read_verdict.specs.Cases.{Case, verdict_on}
use Rattle.read_verdict.specs.Rulings.{ruling_of}
use Rattle.read_verdict.specs.declared.judge.Judge.{Judge}
use Rattle.read_verdict.specs.declared.ruling.Ruling.TheVariants.{More}

-- The judge was made for the case and was fed the bytes, and finished where they have ended: it has the request's number,
-- and its ruling tells the verdict on them. Until that is settled its sniffer has read them all.
pub record HasJudged (judge : Judge) (case : Case) (bytes : List ℕ) (ended : Bool) : Type 0 where
  pub request : judge.request ≡ case.request
  pub kind : judge.kind ≡ kind_of case.head.fields
  pub ruling : judge.ruling ≡ ruling_of (verdict_on case bytes ended)
  pub sniffer : judge.ruling ≡ More → HasRead judge.sniffer (sniff_kind judge.kind) bytes
