-- What is read of the parts.
use Rattle.sq_model.specs.declared.item.Item.{Item}
use Rattle.sq_steps.specs.declared.act.NextItem.{NextItem}

-- where an item goes
abbrev pub next_of : Item → NextItem
next_of item = record { number = item.number; source = item.source; target = item.target; homeward = item.homeward }
