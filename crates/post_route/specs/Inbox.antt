-- The inboxes of documents. Own rules, after `window.postMessage` of the HTML Standard.
use Rattle.std.specs.Prelude.{◌≡◌, ◌≢◌, [], List, ℕ}
use Rattle.std.specs.BTreeMap.{get}
use Rattle.std.specs.Option.{option_map_or}
use Rattle.std.specs.Ordering.{nat_cmp}
use Rattle.script_model.specs.declared.post.Posted.{Posted}
use Rattle.post_route.specs.declared.inboxes.Inboxes.{Inboxes}

-- the posts that wait for a document, the first one first
abbrev pub inbox : Inboxes → ℕ → List Posted
inbox inboxes document = option_map_or (λ queue. queue.items) (get nat_cmp inboxes.queues document) []

-- one document's inbox has become these posts, and each other document's is as it was
pub record ChangesOnly (old new : Inboxes) (document : ℕ) (posts : List Posted) : Type 0 where
  pub changed : inbox new document ≡ posts
  pub others : (other : ℕ) → other ≢ document → inbox new other ≡ inbox old other

-- each document's inbox is as it was
abbrev pub SameInboxes : Inboxes → Inboxes → Type 0
SameInboxes old new = (document : ℕ) → inbox new document ≡ inbox old document
