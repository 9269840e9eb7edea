-- What the rows beside this file compute with: a run with a bound on its steps, lines, and small scripts.
use Rattle.std.specs.Prelude.{◌+◌, ◌%◌, ◌&&◌, ◌++◌, ◌∷◌, [], Bool, List, None, Option, Some, bytes_eq, codes, false, flat_map, length, map, max, slice_get, suc, take, true, zero, ℕ}
use Rattle.std.specs.Option.{option_map_or}
use Rattle.http_header.specs.HeaderMap.{Entries}
use Rattle.page_origin.specs.declared.origin.TupleOrigin.{TupleOrigin}
use Rattle.page_origin.specs.declared.site.Scheme.TheVariants.{Https}
use Rattle.site_url.specs.Sites.{SiteRuleData}
use Rattle.history_entry.specs.declared.entry.Entry.{Entry}
use Rattle.history_entry.specs.declared.policy.Policy.TheVariants.{Two}
use Rattle.entry_text.specs.Lines.{entry_text, field, hex_text, origin_line, reply_text}
use Rattle.script_model.specs.ResourceData.{ResourceData}
use Rattle.script_model.specs.ScriptData.{ScriptData}
use Rattle.script_model.specs.declared.action.Action.{Action}
use Rattle.script_model.specs.declared.action.Action.TheVariants.{Raw as DoRaw}
use Rattle.script_model.specs.declared.action.RawBody.{RawBody}
use Rattle.service_rule.specs.Services.{ServiceRule}
use Rattle.service_rule.specs.Store.{store_rule}
use Rattle.history_steps.specs.MayFollow.{next_of}
use Rattle.history_steps.specs.Nexts.{nexts}
use Rattle.history_steps.specs.Run.{first_next}
use Rattle.history_entries.specs.Text.{lines_of, text_of}
use Rattle.history_laws.specs.Received.{Given, Item, Replied, Taken}

-- the one-thread run for at most n more entries
abbrev pub run_within : ServiceRule → ScriptData → ℕ → List Entry → List Entry
run_within rule s zero h = h
run_within rule s (suc n) h = option_map_or (λ e. run_within rule s n (h ++ e ∷ [])) (first_next rule s h) h

-- lines that end with a line feed
abbrev pub lines_text : List (List ℕ) → List ℕ
lines_text lines = flat_map (λ line. line ++ 10 ∷ []) lines

-- the text of the run of the program's services
abbrev pub run_text : ScriptData → ℕ → List ℕ
run_text s n = text_of s.policy (run_within store_rule s n [])

-- a resource with status 200 and nothing else
abbrev pub plain_resource : List ℕ → ResourceData
plain_resource url = record {
  url = url;
  head = record { status = 200; fields = [] };
  body = [];
  cuts = [];
  fail_after = None;
  actions = [];
}

-- a page whose document does this
abbrev pub page_with : List ℕ → List Action → ResourceData
page_with url actions = record (plain_resource url) { actions = actions }

-- a resource with this status and these header fields
abbrev pub answer_with : List ℕ → ℕ → Entries (List ℕ) → ResourceData
answer_with url status fields = record (plain_resource url) { head = record { status = status; fields = fields } }

-- a resource with this content type and body
abbrev pub typed : List ℕ → List ℕ → List ℕ → ResourceData
typed url type body = record (answer_with url 200 ((codes "content-type", type ∷ []) ∷ [])) { body = body }

-- a redirect with this status and location
abbrev pub redirect : List ℕ → ℕ → List ℕ → ResourceData
redirect url status location = answer_with url status ((codes "location", location ∷ []) ∷ [])

-- the tuple of https and this host, at its default port
abbrev pub https : List ℕ → TupleOrigin
https host = record { scheme = Https; host = host; port = 443 }

-- a forged message in the name of the document itself
abbrev pub forged : RawBody → Action
forged body = DoRaw (record { document = None; body = body })

-- no suffix rule and no isolated origin
abbrev pub no_rules : SiteRuleData
no_rules = record { suffixes = []; isolated = [] }

-- a script of these pages and resources, and all else as where a script leaves it out
abbrev pub plain_script : List (List ℕ) → List ResourceData → ScriptData
plain_script start resources = record { policy = Two; rules = no_rules; spare = false; soft_limit = 64; start = start; resources = resources }

-- the text of an entry, or nothing
abbrev pub option_text : Option Entry → List ℕ
option_text None = []
option_text (Some e) = entry_text e

-- whether each entry from place i on may follow those before it, by its text
abbrev pub follow_from : ScriptData → List Entry → ℕ → List Entry → Bool
follow_from s h i [] = true
follow_from s h i (e ∷ later) = bytes_eq (option_text (next_of store_rule s (take i h) e)) (entry_text e) && follow_from s h (i + 1) later

abbrev pub all_follow : ScriptData → List Entry → Bool
all_follow s h = follow_from s h 0 h

-- the run of a script
abbrev pub run_of : ScriptData → ℕ → List Entry
run_of s n = run_within store_rule s n []

-- the run that takes at each step the entry of this number among those that may follow
abbrev pub chosen : ℕ → List Entry → Option Entry
chosen c es = slice_get es (c % max 1 (length es))

abbrev pub chosen_run : ScriptData → List ℕ → List Entry → List Entry
chosen_run s [] h = h
chosen_run s (c ∷ choices) h = option_map_or (λ e. chosen_run s choices (h ++ e ∷ [])) (chosen c (nexts store_rule s h)) h

-- its lines, then those of what may follow it
abbrev pub run_and_nexts : ScriptData → List Entry → List ℕ
run_and_nexts s h = lines_of h ++ codes "then" ++ 10 ∷ [] ++ lines_of (nexts store_rule s h)

abbrev pub chosen_text : ScriptData → List ℕ → List ℕ
chosen_text s choices = run_and_nexts s (chosen_run s choices [])

-- what a process received, one line each
abbrev pub item_text : Item → List ℕ
item_text (Given e) = entry_text e
item_text (Replied reply) = reply_text reply
item_text (Taken source text) = origin_line source ++ field (hex_text text)

abbrev pub items_text : List Item → List ℕ
items_text items = lines_text (map item_text items)
