use native.Mathlib.Omega.{arith}
use borrow.Author.Tests.{lt-ltb}
use Rattle.updates.specs.Body.{parts_of}
use Rattle.updates.proofs.BodyLaws.{parts_short, attributes_end_lem, parts_read}
use Rattle.updates.proofs.update_parts.Goals as goal

pub returns-then-n-gt-BODY_LIMIT : goal.returns-then-n-gt-BODY_LIMIT
unfolding parts_of
returns-then-n-gt-BODY_LIMIT c = rw (lt-ltb _ _ c.if-n-gt-BODY_LIMIT.true)

pub returns-then-n-lt-LENGTH_SIZE : goal.returns-then-n-lt-LENGTH_SIZE
returns-then-n-lt-LENGTH_SIZE c = parts_short _ c.if-n-gt-BODY_LIMIT.false (omega arith)

pub returns-then-n-at : goal.returns-then-n-at
returns-then-n-at c = parts_short _ c.if-n-gt-BODY_LIMIT.false (omega (arith, c.u16_at-withdrawn.ensures))

pub returns-then-n-end : goal.returns-then-n-end
returns-then-n-end c = parts_short _ c.if-n-gt-BODY_LIMIT.false (omega (arith, attributes_end_lem _ _ _ c.u16_at-withdrawn.ensures c.u16_at-attributes.ensures))

pub returns : goal.returns
returns c = parts_read _ _ _ c.u16_at-withdrawn.ensures c.u16_at-attributes.ensures c.if-n-gt-BODY_LIMIT.false c.if-n-end.false
