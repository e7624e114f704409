-- What a token of a cell knows, and how each kind of step changes it (this project's own).
use Rattle.std.specs.Prelude.{ℕ, ◌+◌, ◌-◌, true, false, [], ◌∷◌, ◌++◌, length, Option, Some, None}
use Rattle.std.specs.Option.{option_map}
use Rattle.hh_core.specs.declared.step.WriterPhase.TheVariants.{Idle, Begun, WroteA, WroteB}
use Rattle.hh_core.specs.declared.reader.ReaderPhase.{ReaderPhase}
use Rattle.hh_core.specs.declared.reader.ReaderPhase.TheVariants.{HasFirst}
use Rattle.hh_core.specs.State.{ReaderState, fresh_reader}
use Rattle.hh_core.specs.Step.{to_phase, loads_a, loads_b, to_floor, ends_try}
use Rattle.hh_cell.specs.declared.view.View.{View}
use Rattle.hh_cell.specs.declared.view.Reading.{Reading}

-- a reader's part of the lock's state
abbrev pub state_of : Reading → ReaderState
state_of r = record { phase = r.phase; known = r.known; floor = r.floor; tries = r.tries }

-- the reader of this number in this state
abbrev pub reading_of : ℕ → ReaderState → Reading
reading_of k x = record { number = k; phase = x.phase; known = x.known; floor = x.floor; tries = x.tries }

-- a reader's state changes
abbrev pub changed : (ReaderState → ReaderState) → Reading → Reading
changed f r = reading_of r.number (f (state_of r))

-- the state of the view's reader changes
abbrev pub reads : (ReaderState → ReaderState) → View → View
reads f v = record v { reader = option_map (changed f) v.reader }

-- the phase of the view's reader, if it has one
abbrev pub phase_in : View → Option ReaderPhase
phase_in v = option_map (λ r. r.phase) v.reader

-- the four stores of a publication of this pair
abbrev pub begun : ℕ × ℕ → View → View
begun p v = record v { phase = Begun p.0 p.1 }

abbrev pub wrote_a : ℕ × ℕ → View → View
wrote_a p v = record v { phase = WroteA p.0 p.1 }

abbrev pub wrote_b : ℕ × ℕ → View → View
wrote_b p v = record v { phase = WroteB p.0 p.1 }

abbrev pub ended : ℕ × ℕ → View → View
ended p v = record v { phase = Idle; published = v.published ++ p ∷ [] }

-- the four loads of a try, by what was found
abbrev pub loads_first : ℕ → View → View
loads_first n v = reads (to_phase (HasFirst n)) v

abbrev pub loads_word_a : ℕ → View → View
loads_word_a n v = reads (λ x. to_phase (loads_a n x.phase) x) v

abbrev pub loads_word_b : ℕ → View → View
loads_word_b n v = reads (λ x. to_phase (loads_b n x.phase) x) v

abbrev pub loads_second : ℕ → View → View
loads_second n v = reads (λ x. ends_try n x.phase x) v

-- a token that knows nothing
abbrev pub spent : View
spent = record { writes = false; published = []; phase = Idle; readers = 0; reader = None }

-- the writer's token of a cell whose first pair this is
abbrev pub first_view : ℕ × ℕ → View
first_view p = record { writes = true; published = p ∷ []; phase = Idle; readers = 0; reader = None }

-- the writer takes in the other's reader
abbrev pub takes_in : View → View → View
takes_in v w = record v { reader = w.reader }

-- the reader that is handed out: the one that was taken in last, else one that hasn't been used
abbrev pub handed : Option Reading → ℕ → Reading
handed None n = reading_of n fresh_reader
handed (Some r) n = r

-- how many readers there are then
abbrev pub readers_after : Option Reading → ℕ → ℕ
readers_after None n = n + 1
readers_after (Some r) n = n

-- the writer's token after it handed out a reader
abbrev pub who_stays : View → View
who_stays v = record v { reader = None; readers = readers_after v.reader v.readers }

-- the token of the reader, whose floor is the last published number
abbrev pub who_goes : View → View
who_goes v = record spent { reader = Some (changed (to_floor (length v.published - 1)) (handed v.reader v.readers)) }
