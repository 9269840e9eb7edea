-- What a service keeps: of each tuple origin, to the service of each name, the requests that it accepted. Own rules, after what Chromium
-- keeps for each origin by itself.
use Rattle.std.specs.Prelude.{◌&&◌, ◌∷◌, [], if◌then◌else◌, Err, List, Ok, Result, bytes_eq, ℕ}
use Rattle.page_origin.specs.Origins.{equal_tuples}
use Rattle.page_origin.specs.declared.origin.TupleOrigin.{TupleOrigin}
use Rattle.service_rule.specs.declared.service.Asked.{Asked}
use Rattle.service_rule.specs.declared.service.ServiceAnswer.{ServiceAnswer}
use Rattle.service_rule.specs.declared.service.ServiceAnswer.TheVariants.{Said as Answered, Refused}

-- the request of a document where it was answered; nothing where it was refused or memory ran out
abbrev pub accepted : {E : Type 0} → Result ServiceAnswer E → ℕ → List ℕ → List Asked
accepted (Ok (Answered text)) document request = record { document = document; request = request } ∷ []
accepted (Ok (Refused rule)) document request = []
accepted (Err e) document request = []

-- what an ask of an origin to a service adds to what is kept of `tuple` to the service called `name`
abbrev pub gained : {E : Type 0} → Result ServiceAnswer E → List ℕ → TupleOrigin → ℕ → List ℕ → List ℕ → TupleOrigin → List Asked
gained result service origin document request name tuple =
    if bytes_eq service name && equal_tuples tuple origin then accepted result document request else []
