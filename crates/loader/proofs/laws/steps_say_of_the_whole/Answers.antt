use Rattle.loader.proofs.Whole.{steps_say_of_whole}
use Rattle.loader.proofs.laws.steps_say_of_the_whole.Goals as goal

pub returns : goal.returns
returns c = steps_say_of_whole
