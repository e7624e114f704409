use Rattle.std.proofs.Common.{◌≡◌, ◌++◌, take, map}
use Rattle.std.specs.Prelude.{string_bytes}
use Rattle.std.specs.List.{AllByRecursion}
use Rattle.text_codes.specs.Lines.{text_of}
use Rattle.neigh_script.specs.Written.{item_words}
use Rattle.neigh_script.specs.Limits.{IsTypedItem}
use Rattle.neigh_script.proofs.writing.write_items.Given as goal

abbrev pub invariant-loop-item : goal.invariant-loop-item
invariant-loop-item l = record {
  text : string_bytes l.text ≡ string_bytes l.fn.text ++ text_of (map (item_words l.host) (take l.item-index l.items));
  typed : AllByRecursion IsTypedItem (take l.item-index l.items);
}
