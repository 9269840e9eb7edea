-- Two pages fetch one secret: with another body of its length the swapped run is legal, and only the own site receives another piece.
use Rattle.std.proofs.Common.{inl, inr, refl}
use Rattle.std.specs.Prelude.{◌≡◌, ◌∷◌, [], List, Some, bytes_eq, codes, false, true, ℕ}
use Rattle.history_entry.specs.declared.entry.Entry.{Entry}
use Rattle.history_entry.specs.declared.body.Mode.TheVariants.{NoCors}
use Rattle.history_entry.specs.declared.rule.Rule.TheVariants.{A4, A5}
use Rattle.script_model.specs.ScriptData.{ScriptData}
use Rattle.script_model.specs.declared.action.Action.TheVariants.{Fetch as DoFetch}
use Rattle.script_model.specs.declared.verdict.Verdict.TheVariants.{Allow}
use Rattle.history_entries.specs.Text.{lines_of}
use Rattle.history_laws.specs.Received.{received}
use Rattle.history_laws.specs.Secret.{Secret, own_verdict, swap_body, was_never_of, with_body, with_own_body}
use Rattle.history_rows.proofs.Computing.{all_follow, items_text, lines_text, page_with, plain_script, run_of}
use Rattle.history_rows.proofs.KeptBack.{fetched, image, page_fetching}
use Rattle.history_rows.proofs.OnLiterals.{history_on_literals}
use Rattle.history_rows.proofs.TwoReaders.{two_readers, two_readers_2}

abbrev pub secret_key : List ℕ
secret_key = codes "https://b.com/x"

abbrev pub other_script : ScriptData
other_script = with_body two_readers secret_key (codes "<head>")

abbrev pub first_run : List Entry
first_run = run_of two_readers 40

abbrev pub other_run : List Entry
other_run = swap_body two_readers secret_key (codes "<head>") first_run

pub is_secret : Secret two_readers secret_key (codes "<head>")
unfolding history_on_literals
is_secret = record { web = refl; closed = refl; same_length = refl; hidden = inr refl }

-- a body that is no HTML does not hide as the old one does
pub is_no_secret : own_verdict (with_own_body (codes "hello!") two_readers_2) ≡ Some (Allow A5)
unfolding history_on_literals
is_no_secret = refl

pub other_run_is_legal : all_follow other_script other_run ≡ true
unfolding history_on_literals
other_run_is_legal = refl

-- the old run is not legal for the changed script
pub first_run_is_not : all_follow other_script first_run ≡ false
unfolding history_on_literals
first_run_is_not = refl

pub other_run_is_the_run : bytes_eq (lines_of other_run) (lines_of (run_of other_script 40)) ≡ true
unfolding history_on_literals
other_run_is_the_run = refl

pub first_is_other_site : was_never_of two_readers first_run secret_key 0 ≡ true
unfolding history_on_literals
first_is_other_site = refl

pub second_is_own_site : was_never_of two_readers first_run secret_key 1 ≡ false
unfolding history_on_literals
second_is_own_site = refl

pub first_received_the_same : bytes_eq (items_text (received first_run 0)) (items_text (received other_run 0)) ≡ true
unfolding history_on_literals
first_received_the_same = refl

-- what the first process received: its order, its replies and the end of its request, and no byte of the secret
pub first_received : items_text (received first_run 0) ≡ lines_text (codes "order 0 0 https://a.com https://a.com https://a.com/"
    ∷ codes "ok" ∷ codes "ok" ∷ codes "end 0 blocked B4" ∷ [])
unfolding history_on_literals
first_received = refl

-- ---- a body that its resource policy keeps

-- two pages fetch one image of `https://b.com`, for its own site alone
abbrev pub two_images : ScriptData
two_images = plain_script (codes "https://a.com/" ∷ codes "https://b.com/" ∷ [])
    (page_with (codes "https://a.com/") (DoFetch secret_key NoCors ∷ [])
    ∷ page_with (codes "https://b.com/") (DoFetch secret_key NoCors ∷ [])
    ∷ image secret_key (codes "same-site") ∷ [])

abbrev pub image_run : List Entry
image_run = run_of two_images 40

abbrev pub other_image_run : List Entry
other_image_run = swap_body two_images secret_key (codes "y") image_run

pub image_is_secret : Secret two_images secret_key (codes "y")
unfolding history_on_literals
image_is_secret = record { web = refl; closed = refl; same_length = refl; hidden = inl refl }

-- without the policy it would be read
pub image_would_be_read : own_verdict (image secret_key (codes "same-site")) ≡ Some (Allow A4)
unfolding history_on_literals
image_would_be_read = refl

pub image_lines : lines_of image_run ≡ lines_text (codes "open 0"
    ∷ codes "open 1"
    ∷ codes "order 0 0 https://a.com https://a.com https://a.com/"
    ∷ codes "order 1 1 https://b.com https://b.com https://b.com/"
    ∷ codes "commit 0 0 https://a.com 68747470733a2f2f612e636f6d2f => ok"
    ∷ codes "said 0 0 0 0 fetch no-cors https://a.com 68747470733a2f2f622e636f6d2f78 => ok"
    ∷ codes "commit 1 1 https://b.com 68747470733a2f2f622e636f6d2f => ok"
    ∷ codes "said 1 1 0 1 fetch no-cors https://b.com 68747470733a2f2f622e636f6d2f78 => ok"
    ∷ codes "head 1 A3"
    ∷ codes "piece 1 0 78"
    ∷ codes "end 0 blocked B8"
    ∷ codes "end 1 whole"
    ∷ [])
unfolding history_on_literals
image_lines = refl

pub other_image_follows : all_follow (with_body two_images secret_key (codes "y")) other_image_run ≡ true
unfolding history_on_literals
other_image_follows = refl

pub image_received_the_same : bytes_eq (items_text (received image_run 0)) (items_text (received other_image_run 0)) ≡ true
unfolding history_on_literals
image_received_the_same = refl

-- a page of another site alone: swapping changes nothing
abbrev pub one_image : ScriptData
one_image = page_fetching NoCors secret_key (codes "same-site")

pub nothing_swapped : lines_of (swap_body one_image secret_key (codes "y") (run_of one_image 40)) ≡ lines_text (fetched (codes "68747470733a2f2f622e636f6d2f78") (codes "end 0 blocked B8" ∷ []))
unfolding history_on_literals
nothing_swapped = refl
