use Rattle.std.proofs.Common.{min, ap}
use Rattle.fc_base.specs.Outside.{last_count}
use Rattle.fort_files.proofs.FailureCounts.{times_elsewhere, fetch_failed}
use Rattle.fort_files.proofs.files.FileStoreStore.fetch.Goals as goal

pub returns-clause-other_fetches : goal.returns-clause-other_fetches
returns-clause-other_fetches g c =
    let noted = c.read_noted in
    λ other differs. ap (λ n. min n last_count) (times_elsewhere c.args.self.now.failed_fetches noted.new.self.failed_fetches c.args.name.now other (fetch_failed noted.result) noted.ensures.failed noted.ensures.not_failed differs)
