-- What facts are asked for without memory, and so must be there and fit: the numbers of a history that are held in 32 bits, and the
-- origin of each current document.
use Rattle.std.specs.Prelude.{◌≡◌, ◌<◌, List, Some, is_some, true, ℕ}
use Rattle.history_entry.specs.declared.entry.Entry.{Entry}
use Rattle.script_model.specs.ScriptData.{ScriptData}
use Rattle.history_rules.specs.Documents.{document_in, is_current, origin_of}
use Rattle.history_rules.specs.Frames.{frames_made, navigations_made}
use Rattle.history_rules.specs.Requests.{requests_made}

-- the counts and the current documents are below 2^32, and each of these has an origin
pub record IsOrderly (s : ScriptData) (h : List Entry) : Type 0 where
  pub frames : frames_made s h < 4294967296
  pub navigations : navigations_made s h < 4294967296
  pub requests : requests_made h < 4294967296
  pub documents : (f d : ℕ) → document_in s h f ≡ Some d → d < 4294967296
  pub origins : (d : ℕ) → is_current s h d ≡ true → is_some (origin_of h d) ≡ true
