-- The entries of a request that may follow a history: a redirect, its head, its pieces and its end. Own rules, after what Chromium's
-- network service hands out of a response: nothing before its verdict, and of a blocked one neither head nor bytes.
use Rattle.std.specs.Prelude.{◌&&◌, if◌then◌else◌, List, None, Option, Some, is_none, length, nat_le, not, option_and_then, option_map, slice_get, ℕ}
use Rattle.history_entry.specs.declared.entry.EndHow.{EndHow}
use Rattle.history_entry.specs.declared.entry.EndHow.TheVariants.{Blocked as WasBlocked, Failed as WasCut, Whole}
use Rattle.history_entry.specs.declared.entry.Entry.{Entry}
use Rattle.history_entry.specs.declared.entry.Entry.TheVariants.{End, Head, Hop, Piece}
use Rattle.history_entry.specs.declared.entry.HopOf.TheVariants.{Req}
use Rattle.history_entry.specs.declared.rule.Rule.TheVariants.{B1, F1, N5, N7}
use Rattle.script_model.specs.ResourceData.{fails_at_once, ResourceData}
use Rattle.script_model.specs.ScriptData.{ScriptData}
use Rattle.script_model.specs.declared.verdict.Verdict.{Verdict}
use Rattle.script_model.specs.declared.verdict.Verdict.TheVariants.{Allow, Block}
use Rattle.script_model.specs.Pieces.{has_ended, pieces}
use Rattle.history_rules.specs.Redirects.{hop_url, is_redirect, is_spent, response}
use Rattle.history_rules.specs.Requests.{cors_fails, delivered, has_head, is_live_request, request_chain, request_verdict}

-- a live request without Head follows a redirect, in mode cors only where the CORS answer has not failed
unfoldable pub request_hop : ScriptData → List Entry → ℕ → Option Entry
request_hop s h r = if is_live_request s h r && not (has_head h r) && not (cors_fails s h r)
    then option_map (Hop (Req r)) (hop_url s (request_chain h r)) else None

-- the head by a verdict that allows
abbrev pub head_by : ℕ → Verdict → Option Entry
head_by r (Allow rule) = Some (Head r rule)
head_by r (Block rule) = None

-- a live request gets its head once the verdict allows it
unfoldable pub head_next : ScriptData → List Entry → ℕ → Option Entry
head_next s h r =
    let response_now : ResourceData = response s (request_chain h r) in
    if is_live_request s h r && not (has_head h r) && not (fails_at_once response_now) && not (is_redirect response_now)
    then option_and_then (head_by r) (request_verdict s h r) else None

-- after its head, the next piece
unfoldable pub piece_next : ScriptData → List Entry → ℕ → Option Entry
piece_next s h r = if is_live_request s h r && has_head h r
    then option_map (Piece r (delivered h r)) (slice_get (pieces (response s (request_chain h r))) (delivered h r)) else None

-- how a wire ends
abbrev pub wire_end : ResourceData → EndHow
wire_end r = if has_ended r then Whole else WasCut N7

-- the rows for a redirect
unfoldable pub redirect_end : ScriptData → List Entry → ℕ → Option EndHow
redirect_end s h r =
    if cors_fails s h r then Some (WasBlocked B1)
    else if is_spent (request_chain h r) then Some (WasCut N5)
    else if is_none (hop_url s (request_chain h r)) then Some (WasCut F1)
    else None

-- the rows for a body by its verdict: a Block, not settled at the fault, or after the head and all pieces
unfoldable pub body_end : ScriptData → List Entry → ℕ → Option Verdict → Option EndHow
body_end s h r (Some (Block rule)) = Some (WasBlocked rule)
body_end s h r None = Some (WasCut N7)
body_end s h r (Some (Allow rule)) =
    if has_head h r && nat_le (length (pieces (response s (request_chain h r)))) (delivered h r)
    then Some (wire_end (response s (request_chain h r))) else None

-- how a request ends: the first row that holds
unfoldable pub end_how : ScriptData → List Entry → ℕ → Option EndHow
end_how s h r =
    if fails_at_once (response s (request_chain h r)) then Some (WasCut N7)
    else if is_redirect (response s (request_chain h r)) then redirect_end s h r
    else body_end s h r (request_verdict s h r)

-- a live request ends
unfoldable pub end_next : ScriptData → List Entry → ℕ → Option Entry
end_next s h r = if is_live_request s h r then option_map (End r) (end_how s h r) else None
