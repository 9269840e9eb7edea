-- A chain that is being read: its first URLs are read and of class Web.
use Rattle.std.proofs.Common.{ap, ◌∙◌, refl, sym, get_or}
use Rattle.std.specs.Prelude.{◌≡◌, ◌≤◌, ◌+◌, ◌++◌, ◌<◌, ◌&&◌, ◌∷◌, [], All, List, drop, false, length, take, true, ℕ}
use Rattle.std.specs.List.{list_all}
use Rattle.std.proofs.lemmas.List.{drop_all, drop_more, take_all, take_more}
use Rattle.std.proofs.lemmas.List.Elements.{All-append, All-cons, All-nil}
use Rattle.page_origin.specs.PageUrls.{class_of}
use Rattle.page_origin.specs.declared.class.UrlClass.TheVariants.{Web}
use Rattle.cors_check.specs.Chains.{IsWebChain}
use Rattle.history_rules.specs.Requests.{is_read_chain, is_read_web}

-- after the first i URLs
pub record IsReadSoFar (chain : List (List ℕ)) (i : ℕ) (urls : List (List ℕ)) : Type 0 where
  pub same : urls ≡ take i chain
  pub left : list_all is_read_web chain ≡ list_all is_read_web (drop i chain)
  pub web : IsWebChain urls

pub read_first : (chain : List (List ℕ)) → IsReadSoFar chain 0 []
read_first chain = record { same = refl; left = refl; web = All-nil (λ url. class_of url ≡ Web) }

module _ (chain urls : List (List ℕ)) (i : ℕ) (text : List ℕ) (so_far : IsReadSoFar chain i urls) (within : i < length chain) (is : text ≡ get_or chain i text) where
  next_left : list_all is_read_web chain ≡ (is_read_web text && list_all is_read_web (drop (i + 1) chain))
  next_left = so_far.left ∙ ap (list_all is_read_web) (drop_more chain i text within ∙ ap (λ x. x ∷ drop (i + 1) chain) (sym is))

  -- a URL is read
  pub read_more : is_read_web text ≡ true → class_of text ≡ Web → IsReadSoFar chain (i + 1) (urls ++ text ∷ [])
  read_more read web = record {
    same = ap (λ xs. xs ++ text ∷ []) so_far.same ∙ ap (λ x. take i chain ++ x ∷ []) is ∙ sym (take_more chain i text within);
    left = next_left ∙ ap (λ b. b && list_all is_read_web (drop (i + 1) chain)) read;
    web = All-append (λ url. class_of url ≡ Web) urls (text ∷ []) so_far.web (All-cons (λ url. class_of url ≡ Web) text [] web (All-nil (λ url. class_of url ≡ Web)));
  }

  -- a URL is not
  pub read_stops : is_read_web text ≡ false → is_read_chain chain ≡ false
  unfolding is_read_chain
  read_stops bad = next_left ∙ ap (λ b. b && list_all is_read_web (drop (i + 1) chain)) bad

-- all are read
pub read_whole : (chain urls : List (List ℕ)) (i : ℕ) → IsReadSoFar chain i urls → length chain ≤ i → (is_read_chain chain ≡ true) × (urls ≡ chain) × IsWebChain urls
unfolding is_read_chain
read_whole chain urls i so_far over = (so_far.left ∙ ap (list_all is_read_web) (drop_all i chain over), so_far.same ∙ take_all i chain over, so_far.web)
