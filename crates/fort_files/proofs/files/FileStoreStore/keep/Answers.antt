use Rattle.std.proofs.Common.{min, ap}
use Rattle.fc_base.specs.Outside.{last_count}
use Rattle.fort_files.proofs.FailureCounts.{times_elsewhere, keep_failed}
use Rattle.fort_files.proofs.files.FileStoreStore.keep.Goals as goal

pub returns-clause-other_keeps : goal.returns-clause-other_keeps
returns-clause-other_keeps g c =
    let noted = c.write_noted in
    λ other differs. ap (λ n. min n last_count) (times_elsewhere c.args.self.now.failed_keeps noted.new.self.failed_keeps c.args.name.now other (keep_failed noted.result) noted.ensures.failed noted.ensures.not_failed differs)
