use Rattle.std.proofs.Common.{length}
use Rattle.core_rows.proofs.tests.driver.+is_web_chain.Given as goal

abbrev pub decreases-is_web_chain : goal.decreases-is_web_chain
decreases-is_web_chain l = length l.urls.now
