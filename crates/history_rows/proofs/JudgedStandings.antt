-- The replies to a process of each standing: one that is absent or warm never had a document, and a dead one has no current document.
use Rattle.std.proofs.Common.{refl}
use Rattle.std.specs.Prelude.{◌≡◌, ◌∷◌, [], List, codes, false, map, ℕ}
use Rattle.page_origin.specs.declared.origin.Origin.{Origin}
use Rattle.page_origin.specs.declared.origin.Origin.TheVariants.{Tuple}
use Rattle.history_entry.specs.declared.body.Body.{Body}
use Rattle.history_entry.specs.declared.body.Body.TheVariants.{AddFrame, Ask, DidCommit, Fetch, Navigate, OpenPage, Post, RemoveFrame}
use Rattle.history_entry.specs.declared.body.Mode.TheVariants.{Cors as InCors}
use Rattle.history_entry.specs.declared.body.Src.TheVariants.{Doc as FromDoc}
use Rattle.history_entry.specs.declared.body.Target.TheVariants.{Any}
use Rattle.history_entry.specs.declared.entry.Entry.{Entry}
use Rattle.entry_text.specs.Lines.{reply_text}
use Rattle.script_model.specs.ScriptData.{ScriptData}
use Rattle.history_rules.specs.Judgement.{judge}
use Rattle.service_rule.specs.Store.{store_rule}
use Rattle.history_rows.proofs.Computing.{https, run_of}
use Rattle.history_rows.proofs.OnLiterals.{history_on_literals}
use Rattle.history_rows.proofs.OneStartPage.{one_page, spare_page}
use Rattle.history_rows.proofs.RemovedFrames.{crashes}

abbrev pub a_com : Origin
a_com = Tuple (https (codes "a.com"))

-- one message of each kind
abbrev pub all_bodies : List Body
all_bodies = Navigate 0 (codes "https://a.com/") a_com ∷ AddFrame (FromDoc 0) false ∷ RemoveFrame 0 ∷ OpenPage (codes "https://a.com/")
    ∷ Fetch (codes "https://a.com/") InCors a_com ∷ Post 0 Any a_com (codes "x") ∷ Ask (codes "store") a_com (codes "get k")
    ∷ DidCommit 0 (codes "https://a.com/") a_com ∷ []

abbrev pub replies : ScriptData → List Entry → ℕ → List (List ℕ)
replies s h p = map (λ body. reply_text (judge store_rule s h p (record { document = 0; body = body }))) all_bodies

abbrev pub seven : List ℕ → List ℕ → List (List ℕ)
seven text last = text ∷ text ∷ text ∷ text ∷ text ∷ text ∷ text ∷ last ∷ []

pub absent_process : replies one_page (run_of one_page 9) 5 ≡ seven (codes "kill K1") (codes "kill K8")
unfolding history_on_literals
absent_process = refl

pub warm_process_replies : replies spare_page (run_of spare_page 9) 1 ≡ seven (codes "kill K1") (codes "kill K8")
unfolding history_on_literals
warm_process_replies = refl

pub dead_process : replies crashes (run_of crashes 9) 0 ≡ seven (codes "drop G1") (codes "drop G3")
unfolding history_on_literals
dead_process = refl

pub locked_process : replies one_page (run_of one_page 9) 0 ≡ codes "ok" ∷ codes "ok" ∷ codes "kill K5" ∷ codes "ok" ∷ codes "ok" ∷ codes "ok"
    ∷ codes "answer 6e6f6e65" ∷ codes "drop G3" ∷ []
unfolding history_on_literals
locked_process = refl

-- the order is judged before it is committed: its own data is accepted
pub waiting_order : replies one_page (run_of one_page 2) 0 ≡ seven (codes "kill K1") (codes "ok")
unfolding history_on_literals
waiting_order = refl
