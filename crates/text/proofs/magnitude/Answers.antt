-- `text::magnitude` meets its contract. Assumes nothing.
use Rattle.text.proofs.Signs.{wide_fits, minus_fits, minus_cast, minus_abs, plain_cast, plain_abs}
use Rattle.text.proofs.magnitude.Goals as goal

pub overflow_cast-result : goal.overflow_cast-result
overflow_cast-result c = wide_fits c.args.v c.ranges.v

pub overflow_sub-result : goal.overflow_sub-result
overflow_sub-result c = minus_fits c.args.v c.ranges.v c.if-v-lt0.true

pub overflow_cast-result-then-v-lt0 : goal.overflow_cast-result-then-v-lt0
overflow_cast-result-then-v-lt0 c = minus_cast c.args.v c.ranges.v c.if-v-lt0.true

pub returns-then-v-lt0 : goal.returns-then-v-lt0
returns-then-v-lt0 c = minus_abs c.args.v c.ranges.v c.if-v-lt0.true

pub overflow_cast-result-2 : goal.overflow_cast-result-2
overflow_cast-result-2 c = plain_cast c.args.v c.ranges.v c.if-v-lt0.false

pub returns : goal.returns
returns c = plain_abs c.args.v c.ranges.v
