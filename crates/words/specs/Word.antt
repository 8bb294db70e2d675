-- The answer of a call to C: three fields and a refusal number, of 16 bits each, in one word of 64.
use Rattle.std.specs.Prelude.{ℕ, ◌+◌, ◌*◌, ◌<◌}
use Rattle.wire.specs.Answer.{Answer, number_in, value_in}

pub record Fields : Type 0 where
  pub a : ℕ
  pub b : ℕ
  pub c : ℕ
  pub refusal : ℕ

abbrev pub fields : ℕ → ℕ → ℕ → ℕ → Fields
fields a b c refusal = record { a = a; b = b; c = c; refusal = refusal }

-- an answer whose values are its fields, in order: what is given has refusal number 0, and a refusal has fields of 0
abbrev pub in_fields : Answer → Fields
in_fields a = fields (value_in 0 a) (value_in 1 a) (value_in 2 a) (number_in a)

-- a field is under this
abbrev pub field_size : ℕ
field_size = 65536

unfoldable pub word_of : Fields → ℕ
word_of f = f.a + 65536 * f.b + 4294967296 * f.c + 281474976710656 * f.refusal

-- the fields are of 16 bits
pub record Narrow (f : Fields) : Type 0 where
  pub a : f.a < field_size
  pub b : f.b < field_size
  pub c : f.c < field_size
