-- The response of a URL: that of the script's resource, which is looked up without the fragment, as a URL is fetched without it. Own
-- rules.
use Rattle.std.specs.Prelude.{[], List, None, unwrap_or, ℕ}
use Rattle.page_origin.specs.PageUrls.{key_of}
use Rattle.script_model.specs.ResourceData.{ResourceData}
use Rattle.script_model.specs.ScriptData.{ScriptData, find_resource}

-- what stands for a resource that the script does not have: status 404, no headers, no body, no actions
abbrev pub absent : List ℕ → ResourceData
absent url = record {
  url = url;
  head = record { status = 404; fields = [] };
  body = [];
  cuts = [];
  fail_after = None;
  actions = [];
}

-- the resource of a URL
abbrev pub resource_at : ScriptData → List ℕ → ResourceData
resource_at s url = unwrap_or (find_resource s (key_of url)) (absent url)
