-- Resources. Own format.
use Rattle.std.specs.Prelude.{ℕ, Bool, not, List, [], ◌∷◌, bytes_eq, codes, unwrap_or, Ok}
use Rattle.std.specs.List.{list_any}
use Rattle.serde_json.specs.Data.{Data}
use Rattle.mime_kind.specs.declared.head.Head.{Head as ResponseHead}
use Rattle.page_origin.specs.PageUrls.{class_of, key_of, page_url_of}
use Rattle.script_model.specs.ResourceData.{ResourceData, is_resource_class}
use Rattle.script_model.specs.ScriptData.{resource_key}
use Rattle.script_model.specs.declared.action.Action.{Action}
use Rattle.script_input.specs.Checked.{Checked, ◌>>=◌, check}
use Rattle.script_input.specs.Refusals.{same_key, wrong_url}
use Rattle.script_input.specs.Values.{integer_within, string_at}
use Rattle.script_input.specs.Objects.{object_at, optional, required}
use Rattle.script_input.specs.Lists.{count_of, list_at}
use Rattle.script_input.specs.Urls.{url_of}
use Rattle.script_input.specs.Headers.{headers_at}
use Rattle.script_input.specs.Bodies.{delivery_in, one_body}
use Rattle.script_input.specs.Actions.{action_at}

-- this is the key of one of these resources
abbrev pub is_key_of : List ResourceData → List ℕ → Bool
is_key_of resources key = list_any (λ r. bytes_eq (resource_key r) key) resources

-- the URL of a resource: of class Web, AboutBlank or DataUrl, else X3; of a key that is not taken, else X7
unfoldable pub url_at : (List ℕ → Bool) → Data → Checked (List ℕ)
url_at is_taken d = do
  text ← string_at d
  url ← url_of (page_url_of text)
  url ← check (is_resource_class (class_of url)) wrong_url url
  check (not (is_taken (key_of url))) same_key url

-- the status and the header fields of a response: 200 and none where they are left out
unfoldable pub head_in : Data → Checked ResponseHead
head_in d = do
  status ← optional (codes "status") (integer_within 200 599) d
  fields ← optional (codes "headers") headers_at d
  Ok (record { status = unwrap_or status 200; fields = unwrap_or fields [] })

-- at most 64 actions
abbrev pub actions_at : ℕ → Data → Checked (List Action)
actions_at count = list_at (λ before. action_at count) 64

-- the actions, none where they are left out
unfoldable pub actions_in : ℕ → Data → Checked (List Action)
actions_in count d = optional (codes "actions") (actions_at count) d >>= λ actions. Ok (unwrap_or actions [])

-- the keys of a resource, in the order of the table
abbrev pub resource_keys : List (List ℕ)
resource_keys =
    codes "url" ∷ codes "status" ∷ codes "headers" ∷ codes "body" ∷ codes "body_hex" ∷ codes "cuts" ∷ codes "fail_after" ∷ codes "actions" ∷ []

-- a resource, in a script of so many, of a key that is not taken
unfoldable pub resource_at : ℕ → (List ℕ → Bool) → Data → Checked ResourceData
resource_at count is_taken d = do
  _ ← object_at (codes "url" ∷ []) resource_keys d
  _ ← one_body d
  url ← required (codes "url") (url_at is_taken) d
  head ← head_in d
  delivery ← delivery_in d
  actions ← actions_in count d
  Ok (record {
    url = url;
    head = head;
    body = delivery.body;
    cuts = delivery.cuts;
    fail_after = delivery.fail_after;
    actions = actions;
  })

-- at most 1,024 resources; to each the keys of those before it are taken
unfoldable pub resources_at : Data → Checked (List ResourceData)
resources_at d = list_at (λ before. resource_at (count_of d) (is_key_of before)) 1024 d

-- the resources, none where they are left out
unfoldable pub resources_in : Data → Checked (List ResourceData)
resources_in d = optional (codes "resources") resources_at d >>= λ resources. Ok (unwrap_or resources [])
