use Rattle.vc_resync.proofs.RunsAreFeeds.{decodes_by_feeds}
use Rattle.vc_resync.proofs.laws.decodes_by_feeds.Goals as goal

pub returns : goal.returns
returns c = decodes_by_feeds
