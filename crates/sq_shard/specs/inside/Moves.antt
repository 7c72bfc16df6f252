-- Messages that leave a home or come in, as the home sees it.
use Rattle.std.specs.Prelude.{◌≡◌, ℕ, ◌+◌, [], ◌∷◌, ◌++◌}
use Rattle.sq_base.specs.declared.row.Row.{Row}
use Rattle.sq_model.specs.declared.place.Site.{Site}
use Rattle.sq_model.specs.declared.replies.EnteredRow.{EnteredRow}
use Rattle.sq_model.specs.Homes.{Home, Unopened, Serving, Closed, MayHoldOneMore, unexpired_rows}

-- a row is put last, with the next serial, which is told, and this slot
abbrev pub IsPut : Site → Home → ℕ → Row → EnteredRow → Home → Type 0
IsPut site (Serving its) m row entered after =
    MayHoldOneMore site.limits its.mode its.next entered.slot (unexpired_rows its m)
    × (entered.serial ≡ its.next)
    × (after ≡ Serving (record its { next = its.next + 1; rows = unexpired_rows its m ++ record row { serial = its.next; slot = entered.slot } ∷ [] }))
IsPut site Unopened m row entered after = ⊥
IsPut site Closed m row entered after = ⊥

-- the next serial of a home
abbrev pub IsNextOf : Home → ℕ → Type 0
IsNextOf (Serving its) serial = serial ≡ its.next
IsNextOf Unopened serial = ⊥
IsNextOf Closed serial = ⊥
