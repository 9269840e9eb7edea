-- Requests to the store, seen through the references to their texts.
use Rattle.std.specs.Prelude.{List, filter_map}
use Rattle.service_rule.specs.Store.{GetKey, RemoveKey, SetKey, StoreRequest, store_request}
use Rattle.service_rule.specs.declared.request.KeyRequest.{KeyRequest}
use Rattle.service_rule.specs.declared.request.KeyRequest.TheVariants.{Get, Remove, Set}
use Rattle.service_rule.specs.declared.service.Asked.{Asked}

-- the request that the references show
abbrev pub key_request : KeyRequest → StoreRequest
key_request (Get key) = GetKey key.now
key_request (Set key value) = SetKey key.now value.now
key_request (Remove key) = RemoveKey key.now

-- those of a list that are requests to the store
abbrev pub store_requests : List Asked → List StoreRequest
store_requests earlier = filter_map (λ asked. store_request asked.request) earlier
