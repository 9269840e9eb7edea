use Rattle.std.proofs.Common.{◌≡◌, ◌∷◌, [], take}
use Rattle.std.specs.Prelude.{filter_map}
use Rattle.std.specs.Option.{option_map_or}
use Rattle.history_rules.specs.Requests.{fetched_url, hop_of_request, request_maker}
use Rattle.request_facts.proofs.requests.request_chain.Given as goal

abbrev pub invariant-loop-entry : goal.invariant-loop-entry
invariant-loop-entry l = l.chain ≡ option_map_or (λ m. fetched_url m.body) (request_maker l.entries l.request) [] ∷ filter_map (hop_of_request l.request) (take l.entry-index l.entries)
