-- An index beside a list of routes, guess off (document 02, K9): the start of every sixteenth item, from the first; and the route that is found by one.
use Rattle.std.specs.Prelude.{ℕ, zero, suc, ◌/◌, ◌%◌, List, [], ◌∷◌, Bool, true, ◌&&◌, length, get_or, drop, leb, ltb, eqb, Result, Ok, Err}
use Rattle.wire.specs.Choice.{pick}
use Rattle.wire.specs.Refusal.{list_limit}
use Rattle.wire.specs.Verdict.{Verdict, answer_by}
use Rattle.wire.specs.Walk.{pieces, starts}
use Rattle.wire.specs.declared.refusal.Refusal.{Refusal}
use Rattle.wire.specs.declared.refusal.Refusal.TheVariants.{TooLong, NotAnIndex, NoSuchRoute}
use Rattle.families.specs.declared.Form.{Form}
use Rattle.families.specs.declared.Form.TheVariants.{Plain}
use Rattle.routes.specs.Prefix.{item_row, host_bits, with_host}
use Rattle.routes.specs.List.{Reader, fixed, step_by}
use Rattle.routes.specs.declared.Prefix.{Prefix}
use Rattle.routes.specs.declared.Route.{Route}

-- ---- the index

-- every sixteenth of a list, after `skip` of it
unfoldable pub sixteenths : ℕ → List ℕ → List ℕ
sixteenths skip [] = []
sixteenths zero (p ∷ ps) = p ∷ sixteenths 15 ps
sixteenths (suc skip) (p ∷ ps) = sixteenths skip ps

-- the items of a list in a form, before its refusal
abbrev pub items_by : Reader → List ℕ → Form → List (List ℕ)
items_by read s form = pieces (step_by read (fixed form)) Plain s

-- where every sixteenth of them starts, from the first
unfoldable pub index_by : Reader → List ℕ → Form → List ℕ
index_by read s form = sixteenths 0 (starts 0 (items_by read s form))

-- strictly rising, `least` at the lowest, and each place before `end`
abbrev pub rising : ℕ → ℕ → List ℕ → Bool
rising least end [] = true
rising least end (p ∷ ps) = leb least p && (ltb p end && rising (suc p) end ps)

-- strictly rising from 0, before the end of a list of so many bytes; of no places, nothing is asked
unfoldable pub is_index : ℕ → List ℕ → Bool
is_index end [] = true
is_index end (p ∷ ps) = eqb p 0 && (ltb p end && rising (suc p) end ps)

-- ---- the route that is asked for

-- past an item that is taken, or its refusal
abbrev pub past_item : {X : Type 0} → Result Prefix Refusal → (ℕ → Result X Refusal) → Result X Refusal
past_item (Ok item) go = go item.used
past_item (Err r) go = Err r

-- what is answered of bytes, and 20 where there are none
abbrev pub unless_none : List ℕ → Result Route Refusal → Result Route Refusal
unless_none [] a = Err NoSuchRoute
unless_none (b ∷ s) a = a

-- route number n from the front on, as one route is read: refusals in byte order up to it, and 20 where the items run out
unfoldable pub route_from : Reader → Form → ℕ → List ℕ → Result Route Refusal
route_from read form zero s = unless_none s (with_host form s (read s form))
route_from read form (suc n) s = unless_none s (past_item (read s form) (λ used. route_from read form n (drop used s)))

-- what one route's reader answers of an item
abbrev pub item_route : Form → List ℕ → Result Route Refusal
item_route form item = Ok (record { prefix = record { used = length item; row = item_row form item }; host = host_bits form item })

-- and past the last one: the refusal that ends the list, or 20 where the items run out
abbrev pub no_route : Verdict → Result Route Refusal
no_route verdict = answer_by verdict (Err NoSuchRoute) Err

-- route number n by an index, from the nearest start at or before it: 1; 19; 20 where that start is lacking; then as above
unfoldable pub route_by : Reader → Form → List ℕ → List ℕ → ℕ → Result Route Refusal
route_by read form s index n =
    pick (leb (length s) list_limit)
    (pick (is_index (length s) index)
    (pick (ltb (n / 16) (length index))
    (route_from read form (n % 16) (drop (get_or index (n / 16) 0) s))
    (Err NoSuchRoute))
    (Err NotAnIndex))
    (Err TooLong)
