-- What an error of the crate `url` is told as.
use Rattle.url.specs.declared.error.ParseError.{ParseError}
use Rattle.url.specs.declared.error.ParseError.TheVariants.{OutOfMemory, Overflow}
use Rattle.page_origin.specs.declared.page.UrlRefusal.{UrlRefusal}
use Rattle.page_origin.specs.declared.page.UrlRefusal.TheVariants.{BadUrl, NoMemory}

-- memory ran out, or the text is no URL
abbrev pub refusal_of : ParseError → UrlRefusal
refusal_of OutOfMemory = NoMemory
refusal_of Overflow = NoMemory
refusal_of error = BadUrl
