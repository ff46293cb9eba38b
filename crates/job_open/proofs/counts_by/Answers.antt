-- `job_open::counts_by` meets its contract. Assumes nothing.
use Rattle.lists.proofs.Every.{tests}
use Rattle.rule_job.specs.Files.{good_starts, counts_by}
use Rattle.job_open.proofs.counts_by.Goals as goal

pub returns-then-p-ne64 : goal.returns-then-p-ne64
unfolding counts_by good_starts
returns-then-p-ne64 c = search tests

pub returns-then-q-p : goal.returns-then-q-p
unfolding counts_by good_starts
returns-then-q-p c = search tests

pub returns-then-q-p-ne0 : goal.returns-then-q-p-ne0
unfolding counts_by good_starts
returns-then-q-p-ne0 c = search tests

pub returns-then-l-q : goal.returns-then-l-q
unfolding counts_by good_starts
returns-then-l-q c = search tests

pub returns-then-l-q-ne0 : goal.returns-then-l-q-ne0
unfolding counts_by good_starts
returns-then-l-q-ne0 c = search tests

pub returns-then-t-l : goal.returns-then-t-l
unfolding counts_by good_starts
returns-then-t-l c = search tests

pub returns-then-t-z : goal.returns-then-t-z
unfolding counts_by good_starts
returns-then-t-z c = search tests

pub returns : goal.returns
unfolding counts_by good_starts
returns c = search tests
