use Rattle.public_suffix.proofs.FirstLabel.{rest_of}
use Rattle.public_suffix.proofs.labels.without_first_label.Goals as goal

pub returns-in-Some : goal.returns-in-Some
returns-in-Some c = rw c.in-Some.is at (rest_of c.args.host.now c.utf8.host c.split_once.result c.split_once.ensures.cases)

pub returns-in-None : goal.returns-in-None
returns-in-None c = rw c.in-None.is at (rest_of c.args.host.now c.utf8.host c.split_once.result c.split_once.ensures.cases)
