-- The chain of a request's URLs against the request's origin: whether it stays in that origin, and the text of the origin
-- that a response must name, after "redirect-taint" and "serializing a request origin" of the Fetch Standard.
use Rattle.std.specs.Prelude.{◌≡◌, ℕ, Bool, false, not, ◌&&◌, ◌||◌, List, [], ◌∷◌, codes, if◌then◌else◌, All}
use Rattle.std.specs.List.{list_all}
use Rattle.page_origin.specs.declared.origin.Origin.{Origin}
use Rattle.page_origin.specs.declared.class.UrlClass.TheVariants.{Web}
use Rattle.page_origin.specs.PageUrls.{class_of}
use Rattle.page_origin.specs.Origins.{equal_tuples, has_origin, origin_text, tuple_of}

-- each URL is of class Web
abbrev pub IsWebChain : List (List ℕ) → Type 0
IsWebChain chain = All (λ url. class_of url ≡ Web) chain

-- each URL has the request's origin
abbrev pub is_same_origin_chain : Origin → List (List ℕ) → Bool
is_same_origin_chain origin chain = list_all (λ url. has_origin url origin) chain

-- going on from one URL to another taints a chain: the one is not of the request's origin, the other not of the one's
abbrev pub taints : Origin → List ℕ → List ℕ → Bool
taints origin a b = not (has_origin a origin) && not (equal_tuples (tuple_of a) (tuple_of b))

-- some URL of the chain and the next one taint it so
abbrev pub is_tainted : Origin → List (List ℕ) → Bool
is_tainted origin [] = false
is_tainted origin (a ∷ []) = false
is_tainted origin (a ∷ b ∷ chain) = taints origin a b || is_tainted origin (b ∷ chain)

-- the text of the request's origin, or `null` where the chain is tainted
unfoldable pub compared_text : Origin → List (List ℕ) → List ℕ
compared_text origin chain = if is_tainted origin chain then codes "null" else origin_text origin
