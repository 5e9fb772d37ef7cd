-- `target_bytes::six_size` meets its contract.
use Rattle.target_bytes.proofs.Sizes.{six_there, six_none}
use Rattle.target_bytes.proofs.six_size.Goals as goal

pub returns-then-series : goal.returns-then-series
returns-then-series c = six_there c.args.series c.args.count c.if-series.true c.count_size.ensures

pub returns : goal.returns
returns c = six_none c.args.series c.args.count c.if-series.false
