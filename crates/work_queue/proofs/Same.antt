-- Two keys that pass for the same are equal.
use Rattle.std.proofs.Common.{◌≡◌, true, refl, ap}
use Rattle.std.proofs.lemmas.Bool.{eq-eqb, eqb-true}
use Rattle.work_queue.specs.declared.task.BrowserJob.{BrowserJob}
use Rattle.work_queue.specs.declared.task.BrowserJob.TheVariants.{Commit, Exit, Nav, Open, Request, Warm}
use Rattle.work_queue.specs.declared.task.TaskKey.{TaskKey}
use Rattle.work_queue.specs.declared.task.TaskKey.TheVariants.{Act, Browser, Load}
use Rattle.work_queue.specs.Keys.{same_job, same_key}

job_is : (a b : BrowserJob) → same_job a b ≡ true → a ≡ b
job_is (Open a) (Open b) same = ap Open (eqb-true a b same)
job_is Warm Warm same = refl
job_is (Nav a) (Nav b) same = ap Nav (eqb-true a b same)
job_is (Commit a) (Commit b) same = ap Commit (eqb-true a b same)
job_is (Request a) (Request b) same = ap Request (eqb-true a b same)
job_is (Exit a) (Exit b) same = ap Exit (eqb-true a b same)
job_is _ _ same = cc

same_job-refl : (a : BrowserJob) → same_job a a ≡ true
same_job-refl (Open a) = eq-eqb a a refl
same_job-refl Warm = refl
same_job-refl (Nav a) = eq-eqb a a refl
same_job-refl (Commit a) = eq-eqb a a refl
same_job-refl (Request a) = eq-eqb a a refl
same_job-refl (Exit a) = eq-eqb a a refl

pub key_is : (a b : TaskKey) → same_key a b ≡ true → a ≡ b
key_is (Browser a) (Browser b) same = ap Browser (job_is a b same)
key_is (Act a) (Act b) same = ap Act (eqb-true a b same)
key_is (Load a) (Load b) same = ap Load (eqb-true a b same)
key_is _ _ same = cc

pub same_key-refl : (a : TaskKey) → same_key a a ≡ true
same_key-refl (Browser a) = same_job-refl a
same_key-refl (Act a) = eq-eqb a a refl
same_key-refl (Load a) = eq-eqb a a refl
