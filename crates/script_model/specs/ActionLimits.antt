-- What an action may say: the limits on its texts, and the resources that it may name. Own format.
use Rattle.std.specs.Prelude.{◌≤◌, ◌<◌, List, length, ⊤, ℕ}
use Rattle.page_origin.specs.declared.origin.Origin.TheVariants.{Opaque, Tuple}
use Rattle.history_entry.specs.declared.body.Src.{Src}
use Rattle.history_entry.specs.declared.body.Src.TheVariants.{Doc as FromDoc, Url as FromUrl}
use Rattle.history_entry.specs.declared.body.Target.{Target}
use Rattle.history_entry.specs.declared.body.Target.TheVariants.{Any, Of, Own as OwnOrigin}
use Rattle.script_model.specs.declared.action.Action.{Action}
use Rattle.script_model.specs.declared.action.Action.TheVariants as actions
use Rattle.script_model.specs.declared.action.RawBody.{RawBody}
use Rattle.script_model.specs.declared.action.RawBody.TheVariants as forged
use Rattle.script_model.specs.declared.limits.TheConstants.{MAX_SERVICE_NAME, MAX_SHORT_TEXT, MAX_URL_INPUT}

-- the text of a URL: at most 4,096 bytes. It need not be one that can be read
abbrev pub IsUrlInput : List ℕ → Type 0
IsUrlInput text = length text ≤ MAX_URL_INPUT

-- the text of a post or of a request to a service: at most 1,024 bytes
abbrev pub IsShortText : List ℕ → Type 0
IsShortText text = length text ≤ MAX_SHORT_TEXT

-- the name of a service: 1 to 32 bytes
pub record IsServiceName (name : List ℕ) : Type 0 where
  pub some : 1 ≤ length name
  pub short : length name ≤ MAX_SERVICE_NAME

-- where a frame's first document comes from: a URL's text, or a resource
abbrev pub IsSource : Src → Type 0
IsSource (FromUrl url) = IsUrlInput url
IsSource (FromDoc index) = ⊤

-- to whom a post is given: a target that names an origin names a tuple
abbrev pub IsTarget : Target → Type 0
IsTarget Any = ⊤
IsTarget OwnOrigin = ⊤
IsTarget (Of (Tuple o)) = ⊤
IsTarget (Of (Opaque o)) = ⊥

-- what a forged message may say
abbrev pub IsRawBody : RawBody → Type 0
IsRawBody (forged.Navigate frame url initiator) = IsUrlInput url
IsRawBody (forged.Frame src sandbox) = IsSource src
IsRawBody (forged.Remove frame) = ⊤
IsRawBody (forged.Page url) = IsUrlInput url
IsRawBody (forged.Fetch url mode initiator) = IsUrlInput url
IsRawBody (forged.Post frame target source text) = IsTarget target × IsShortText text
IsRawBody (forged.Ask service origin request) = IsServiceName service × IsShortText request
IsRawBody (forged.Commit nav url origin) = IsUrlInput url

-- what an action may say
abbrev pub IsAction : Action → Type 0
IsAction (actions.Frame src sandbox) = IsSource src
IsAction (actions.Remove child) = ⊤
IsAction (actions.Navigate frame url) = IsUrlInput url
IsAction (actions.Page url) = IsUrlInput url
IsAction (actions.Fetch url mode) = IsUrlInput url
IsAction (actions.Post frame target text) = IsTarget target × IsShortText text
IsAction (actions.Ask service request) = IsServiceName service × IsShortText request
IsAction actions.Wait = ⊤
IsAction actions.Recv = ⊤
IsAction actions.Crash = ⊤
IsAction (actions.Raw message) = IsRawBody message.body

-- a frame's resource is one of the first `count`
abbrev pub IsSourceAmong : ℕ → Src → Type 0
IsSourceAmong count (FromUrl url) = ⊤
IsSourceAmong count (FromDoc index) = index < count

-- a forged message names only resources that there are
abbrev pub IsRawBodyAmong : ℕ → RawBody → Type 0
IsRawBodyAmong count (forged.Navigate frame url initiator) = ⊤
IsRawBodyAmong count (forged.Frame src sandbox) = IsSourceAmong count src
IsRawBodyAmong count (forged.Remove frame) = ⊤
IsRawBodyAmong count (forged.Page url) = ⊤
IsRawBodyAmong count (forged.Fetch url mode initiator) = ⊤
IsRawBodyAmong count (forged.Post frame target source text) = ⊤
IsRawBodyAmong count (forged.Ask service origin request) = ⊤
IsRawBodyAmong count (forged.Commit nav url origin) = ⊤

-- an action names only resources that there are
abbrev pub IsActionAmong : ℕ → Action → Type 0
IsActionAmong count (actions.Frame src sandbox) = IsSourceAmong count src
IsActionAmong count (actions.Remove child) = ⊤
IsActionAmong count (actions.Navigate frame url) = ⊤
IsActionAmong count (actions.Page url) = ⊤
IsActionAmong count (actions.Fetch url mode) = ⊤
IsActionAmong count (actions.Post frame target text) = ⊤
IsActionAmong count (actions.Ask service request) = ⊤
IsActionAmong count actions.Wait = ⊤
IsActionAmong count actions.Recv = ⊤
IsActionAmong count actions.Crash = ⊤
IsActionAmong count (actions.Raw message) = IsRawBodyAmong count message.body
