-- What every page's URL keeps.
use Rattle.std.specs.Prelude.{◌≡◌, ◌≤◌, Ok, None, length, true}
use Rattle.std.specs.List.{list_all}
use Rattle.url.specs.Parts.{Parts}
use Rattle.url.specs.Parser.{parse_url}
use Rattle.page_origin.specs.UrlText.{is_printable}
use Rattle.page_origin.specs.PageUrls.{max_length, url_text}

-- its text parses to it again, is short, and is printable
pub record IsPageUrl (url : Parts) : Type 0 where
  pub parses : parse_url None (url_text url) ≡ Ok url
  pub short : length (url_text url) ≤ max_length
  pub printable : list_all is_printable (url_text url) ≡ true
