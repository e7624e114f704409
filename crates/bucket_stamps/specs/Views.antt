-- What a token of a stamp word knows, and how each kind of step changes it (this project's own).
use Rattle.std.specs.Prelude.{ℕ, ◌+◌, Bool, true, false, List, [], ◌∷◌, ◌++◌, length, Option, Some, None}
use Rattle.std.specs.Option.{option_map}
use Rattle.nb_base.specs.declared.key.Key.{Key}
use Rattle.nb_base.specs.declared.line.Line.{Line}
use Rattle.atomic_table.specs.Seated.{TableId}
use Rattle.bucket_stamps.specs.declared.view.Turn.{Turn}
use Rattle.bucket_stamps.specs.declared.view.History.{History}
use Rattle.bucket_stamps.specs.declared.view.Part.{Part}
use Rattle.bucket_stamps.specs.declared.view.View.{View}
use Rattle.bucket_stamps.specs.Own.{pair_by, pairs_from}

abbrev pub empty_history : History
empty_history = record { lines = []; turns = []; cells = [] }

-- a participant that has done and seen nothing
abbrev pub newcomer : ℕ → Part
newcomer p = record { participant = p; pairs = []; seen = empty_history }

-- a token that knows nothing
abbrev pub spent : View
spent = record { stamper = false; participants = 0; history = empty_history; part = None }

-- a token of this participant
abbrev pub token_of : Part → View
token_of m = record spent { part = Some m }

-- the stamper of a bucket without lines
abbrev pub first_view : View
first_view = record { stamper = true; participants = 0; history = empty_history; part = None }

-- the participant that a view is of, or whose stamp was lodged
abbrev pub participant_in : View → Option ℕ
participant_in v = option_map (λ m. m.participant) v.part

-- ---- a participant is handed out

abbrev pub one_more : View → View
one_more v = record v { participants = v.participants + 1 }

abbrev pub comes_in : View → View
comes_in v = token_of (newcomer v.participants)

-- ---- a stamp is lodged, and handed out again

abbrev pub takes_in : View → View → View
takes_in v w = record v { part = w.part }

-- the participant has seen the whole history
abbrev pub met : History → Part → Part
met history m = record m { seen = history }

abbrev pub who_stays : View → View
who_stays v = record v { part = None }

abbrev pub who_goes : View → View
who_goes v = record spent { part = option_map (met v.history) v.part }

-- ---- a line and a turn of the lodged participant

abbrev pub with_line : Line → List (Key × TableId) → History → History
with_line l cells history = record history { lines = history.lines ++ l ∷ []; cells = history.cells ++ cells }

-- the participant's pairs grow where the line is its own
abbrev pub owns : Line → ℕ → Part → Part
owns l place m = record m { pairs = m.pairs ++ pair_by l.id m.participant place }

-- or by those of these lines that are its own, of which the first stands at this place
abbrev pub owns_all : List Line → ℕ → Part → Part
owns_all ls place m = record m { pairs = m.pairs ++ pairs_from m.participant place ls }

abbrev pub writes : Line → List (Key × TableId) → View → View
writes l cells v = record v { history = with_line l cells v.history; part = option_map (owns l (length v.history.lines)) v.part }

-- the line that was picked, if any
abbrev pub writes_by : Option Line → List (Key × TableId) → View → View
writes_by None cells v = v
writes_by (Some l) cells v = writes l cells v

-- the turn of the participant that stands here, at a journal of this length
abbrev pub turn_by : Option Part → ℕ → Bool → ℕ → List Turn
turn_by None at ok length = []
turn_by (Some m) at ok length = (record { participant = m.participant; at = at; ok = ok; length = length }) ∷ []

abbrev pub with_turn : ℕ → Bool → Option Part → History → History
with_turn at ok o history = record history { turns = history.turns ++ turn_by o at ok (length history.lines) }

-- the participant has seen all that was written, with its turn
abbrev pub turned : ℕ → Bool → View → View
turned at ok v = record v { history = with_turn at ok v.part v.history; part = option_map (met (with_turn at ok v.part v.history)) v.part }
