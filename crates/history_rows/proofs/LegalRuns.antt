-- Runs are legal entry by entry, and entries that come twice or in another order are not.
use Rattle.std.proofs.Common.{refl}
use Rattle.std.specs.Prelude.{◌≡◌, ◌∷◌, [], codes, take, true}
use Rattle.history_entry.specs.declared.entry.Entry.TheVariants.{Piece}
use Rattle.service_rule.specs.Store.{store_rule}
use Rattle.history_steps.specs.MayFollow.{next_of}
use Rattle.history_steps.specs.Nexts.{nexts}
use Rattle.history_entries.specs.Text.{lines_of}
use Rattle.history_rows.proofs.Computing.{all_follow, lines_text, option_text, run_of}
use Rattle.history_rows.proofs.OnLiterals.{history_on_literals}
use Rattle.history_rows.proofs.OpenedPages.{grandchild}
use Rattle.history_rows.proofs.Posts.{to_parent}
use Rattle.history_rows.proofs.ReadBlocking.{svg}
use Rattle.history_rows.proofs.ReplacedOrder.{replaced}
use Rattle.history_rows.proofs.ShopPage.{shop}

-- each entry of a run may follow those before it
pub shop_follows : all_follow shop (run_of shop 40) ≡ true
unfolding history_on_literals
shop_follows = refl

pub grandchild_follows : all_follow grandchild (run_of grandchild 40) ≡ true
unfolding history_on_literals
grandchild_follows = refl

pub replaced_follows : all_follow replaced (run_of replaced 40) ≡ true
unfolding history_on_literals
replaced_follows = refl

pub posts_follow : all_follow to_parent (run_of to_parent 40) ≡ true
unfolding history_on_literals
posts_follow = refl

-- a piece that comes twice may not follow
pub piece_twice : option_text (next_of store_rule svg (take 6 (run_of svg 40)) (Piece 0 0 (codes "<?xml"))) ≡ codes ""
unfolding history_on_literals
piece_twice = refl

-- a run without its last entry is not finished
pub not_finished : lines_of (nexts store_rule svg (take 6 (run_of svg 40))) ≡ lines_text (codes "end 0 whole" ∷ [])
unfolding history_on_literals
not_finished = refl

-- two entries may follow here, in this order: the commits of two processes
pub two_may : lines_of (nexts store_rule replaced (take 7 (run_of replaced 40))) ≡ lines_text (codes "commit 0 1 https://a.com 68747470733a2f2f612e636f6d2f66 => drop G3" ∷ codes "commit 1 2 https://b.com 68747470733a2f2f622e636f6d2f => ok" ∷ [])
unfolding history_on_literals
two_may = refl
