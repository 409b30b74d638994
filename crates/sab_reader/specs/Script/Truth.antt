-- When what a refusal says is true of the script.
use Rattle.std.specs.Prelude.{◌≡◌, ◌⊎◌, ◌↔◌, ℕ, ◌+◌, ◌-◌, ◌*◌, ◌/◌, ◌<◌, ◌≤◌, ℤ, pos, ◌<ℤ◌, List, length, take, Bool, true, false, Some, None, IsTrue, Contains}
use Rattle.std.specs.Float.{Float, binary64, float_is_finite, float_to_signed, is_sign_negative}
use Rattle.std.specs.Float.Ieee.{eq, of_int}
use Rattle.std.specs.Int.{w64}
use Rattle.serde_json.specs.Data.{Num, float, Data, null, boolean, number, string, array, object, Items, no_items, Members}
use Rattle.serde_json.specs.Find.{get_member}
use Rattle.serde_json.specs.Events.{items_len}
use Rattle.serde_json.specs.Read.{number_of}
use Rattle.sab_block.specs.declared.kind.Kind.{Kind}
use Rattle.sab_block.specs.Kind.{kind_name, element_size}
use Rattle.sab_block.specs.Operand.{IsSafeInteger}
use Rattle.sab_plan.specs.declared.call.Call.{Call}
use Rattle.sab_plan.specs.declared.plan.TheConstants.Plan.{MAX_BLOCKS, MAX_BLOCK_LEN, MAX_VIEWS, MAX_AGENTS, MAX_CALLS}
use Rattle.sab_refusal.specs.declared.excerpt.Excerpt.{Excerpt}
use Rattle.sab_refusal.specs.declared.excerpt.TheConstants.Excerpt.{ROOM}
use Rattle.sab_refusal.specs.Excerpt.{bytes_of, is_cut_of}
use Rattle.sab_refusal.specs.declared.located.Located.{Located}
use Rattle.sab_refusal.specs.declared.location.Location.{Location}
use Rattle.sab_refusal.specs.declared.location.Location.TheVariants as at
use Rattle.sab_refusal.specs.declared.member.Member.{Member}
use Rattle.sab_refusal.specs.declared.member.Member.TheVariants as M
use Rattle.sab_refusal.specs.declared.read_fault.ReadFault.{ReadFault}
use Rattle.sab_refusal.specs.declared.reason.Wanted.{Wanted}
use Rattle.sab_refusal.specs.declared.reason.Wanted.TheVariants as wanted
use Rattle.sab_refusal.specs.declared.reason.Unit.{Unit as Units}
use Rattle.sab_refusal.specs.declared.reason.Unit.TheVariants as unit
use Rattle.sab_refusal.specs.declared.reason.Counted.{Counted}
use Rattle.sab_refusal.specs.declared.reason.Counted.TheVariants.{Agent, Block}
use Rattle.sab_refusal.specs.declared.reason.Misfit.{Misfit}
use Rattle.sab_refusal.specs.declared.reason.Misfit.TheVariants as misfit
use Rattle.sab_refusal.specs.declared.reason.Reason.{Reason}
use Rattle.sab_refusal.specs.declared.reason.Reason.TheVariants as why
use Rattle.sab_refusal.specs.Location.{member_name}
use Rattle.sab_refusal.specs.Reason.{fault_of}
use Rattle.sab_reader.specs.declared.script.form.Form.{Form}
use Rattle.sab_reader.specs.declared.script.form.Form.TheVariants.{Bytes, Blocks}
use Rattle.sab_reader.specs.declared.script.schedule.TheConstants.{MAX_MOVES}
use Rattle.sab_reader.specs.Script.Calls.{spelling_of}
use Rattle.sab_reader.specs.Script.Numbers.{whole, SpellsWhole, SpellsBig}
use Rattle.sab_reader.specs.Script.Places.{Stands, CallsFor, members_at, form_of, IsNamed}
use Rattle.sab_reader.specs.Script.Views.{IsName, IsLike}

-- the start of a text, as it is reported
pub record IsStart (reported : Excerpt) (text : List ℕ) : Type 0 where
  pub bytes : bytes_of reported ≡ take ROOM text
  pub cut : IsTrue (is_cut_of reported) ↔ (ROOM < length text)

-- a string stands at a place, and its start is reported
abbrev pub HasText : Data → Location → Excerpt → List ℕ → Type 0
HasText root place reported text = Stands root place (string text) × IsStart reported text

-- a value is of a type
abbrev pub IsOf : Wanted → Data → Type 0
IsOf wanted.Object d = (ms : Members) × (d ≡ object ms)
IsOf wanted.Array d = (ds : Items) × (d ≡ array ds)
IsOf wanted.Text d = (s : List ℕ) × (d ≡ string s)
IsOf wanted.Flag d = (b : Bool) × (d ≡ boolean b)
IsOf wanted.Whole d = (n : Num) × (d ≡ number n)
IsOf wanted.WholeOrNull d = ((n : Num) × (d ≡ number n)) ⊎ (d ≡ null)
IsOf wanted.Operand d = ((n : Num) × (d ≡ number n)) ⊎ ((s : List ℕ) × (d ≡ string s))
IsOf wanted.Move d = ((n : Num) × (d ≡ number n)) ⊎ ((ms : Members) × (d ≡ object ms))

-- another type is called for than that of the value there
abbrev pub IsMistyped : Data → Location → Wanted → Type 0
IsMistyped root place w = (d : Data) × Stands root place d × CallsFor root place w × (IsOf w d → ⊥)

-- the object there lacks a member that is called for
abbrev pub Lacks : Data → Location → Member → Type 0
Lacks root place m =
    (ms : Members) × Stands root place (object ms) × (get_member (member_name m) ms ≡ None)
    × Contains (members_at (form_of root) place) m

-- the object there has a member of a name, and none of this name is called for
pub record HasSurplus (root : Data) (place : Location) (reported : Excerpt) : Type 0 where
  pub members : Members
  pub stands : Stands root place (object members)
  pub name : List ℕ
  pub reported_name : IsStart reported name
  pub member : Data
  pub there : get_member name members ≡ Some member
  pub uncalled : (m : Member) → Contains (members_at (form_of root) place) m → name ≡ member_name m → ⊥

-- how many there can be
abbrev pub limit_of : Units → ℕ
limit_of unit.Bytes = MAX_BLOCK_LEN
limit_of unit.Blocks = MAX_BLOCKS
limit_of unit.Views = MAX_VIEWS
limit_of unit.Agents = MAX_AGENTS
limit_of unit.Calls = MAX_CALLS
limit_of unit.Moves = MAX_MOVES

-- so many items stand in an array
abbrev pub HasItems : Data → Location → ℕ → Type 0
HasItems root place n = (ds : Items) × Stands root place (array ds) × (items_len ds ≡ n)

-- the length of a block stands there
abbrev pub IsLenPlace : Location → Type 0
IsLenPlace place = (place ≡ at.Member M.Bytes) ⊎ ((b : ℕ) × (place ≡ at.Item M.Blocks b))

-- where they stand in an array
abbrev pub IsListOf : Units → Location → Type 0
IsListOf unit.Bytes place = ⊥
IsListOf unit.Blocks place = place ≡ at.Member M.Blocks
IsListOf unit.Views place = place ≡ at.Member M.Views
IsListOf unit.Agents place = place ≡ at.Member M.Agents
IsListOf unit.Calls place = (i : ℕ) × (place ≡ at.Part M.Agents i M.Calls)
IsListOf unit.Moves place = place ≡ at.Member M.Schedule

-- there are so many of them at a place
abbrev pub HasMany : Data → Location → Units → ℕ → Type 0
HasMany root place unit.Bytes n = IsLenPlace place × Stands root place (whole (pos n))
HasMany root place of n = IsListOf of place × HasItems root place n

-- how many elements a call has
abbrev pub elements_of : Call → ℕ
elements_of call = 3 + length (spelling_of call).arguments

-- each call of the name there has so many elements at least, and one has just so many
pub record NeedsElements (root : Data) (i j least : ℕ) : Type 0 where
  pub each : (call : Call) → IsNamed root i j (spelling_of call).name → least ≤ elements_of call
  pub call : Call
  pub just : elements_of call ≡ least
  pub named : IsNamed root i j (spelling_of call).name

-- each call of the name there has so many elements at most, and one has just so many
pub record AllowsElements (root : Data) (i j most : ℕ) : Type 0 where
  pub each : (call : Call) → IsNamed root i j (spelling_of call).name → elements_of call ≤ most
  pub call : Call
  pub just : elements_of call ≡ most
  pub named : IsNamed root i j (spelling_of call).name

-- a call has fewer elements than one of its name can have, which is from `least` to `most`
abbrev pub HasFew : Data → Location → ℕ → ℕ → ℕ → Type 0
HasFew root place count least most =
    (i : ℕ) × (j : ℕ) × (place ≡ at.Call M.Agents i M.Calls j) × HasItems root place count × (count < least)
    × NeedsElements root i j least × AllowsElements root i j most

-- a call has more elements than one of its name can have
abbrev pub HasMore : Data → Location → ℕ → ℕ → Type 0
HasMore root place count most =
    (i : ℕ) × (j : ℕ) × (place ≡ at.Call M.Agents i M.Calls j) × HasItems root place count × (most < count)
    × AllowsElements root i j most

-- a name that no view can have
abbrev pub IsMisnamed : Data → Location → Excerpt → Type 0
IsMisnamed root place reported =
    (i : ℕ) × (place ≡ at.Part M.Views i M.Name) × ((name : List ℕ) × HasText root place reported name × (IsName name → ⊥))

-- the name of a view before
abbrev pub IsNameOf : Data → Location → Excerpt → ℕ → Type 0
IsNameOf root place reported v =
    (i : ℕ) × (place ≡ at.Part M.Views i M.Name) × (v < i)
    × ((name : List ℕ) × HasText root place reported name × Stands root (at.Part M.Views v M.Name) (string name))

-- the name of no view, where a call has that of its view
abbrev pub NamesNoView : Data → Location → Excerpt → Type 0
NamesNoView root place reported =
    (i : ℕ) × (j : ℕ) × (place ≡ at.Element M.Agents i M.Calls j 1)
    × ((name : List ℕ) × HasText root place reported name
    × ((v : ℕ) → Stands root (at.Part M.Views v M.Name) (string name) → ⊥))

-- the name of no call, where a call has its name
abbrev pub NamesNoCall : Data → Location → Excerpt → Type 0
NamesNoCall root place reported =
    (i : ℕ) × (j : ℕ) × (place ≡ at.Element M.Agents i M.Calls j 0)
    × ((name : List ℕ) × HasText root place reported name × ((call : Call) → name ≡ (spelling_of call).name → ⊥))

-- the name of no kind, where a view has that of its kind; and more is said of this name
abbrev pub NamesNoKind : Data → Location → Excerpt → (List ℕ → Type 0) → Type 0
NamesNoKind root place reported More =
    (i : ℕ) × (place ≡ at.Part M.Views i M.Kind)
    × ((name : List ℕ) × HasText root place reported name × ((kind : Kind) → name ≡ kind_name kind → ⊥) × More name)

-- a float without its fraction; from 2^63 and from -2^63 on, the nearest number of 64 bits
abbrev pub whole_part : Float → ℤ
whole_part x = float_to_signed w64 x

-- a float has a fraction, and lies within ±(2^53 - 1); a text that reads as this float is reported
abbrev pub IsFraction : Num → Excerpt → Type 0
IsFraction (float x) reported =
    IsSafeInteger (whole_part x) × (eq x (of_int binary64 (whole_part x)) ≡ false)
    × ((text : List ℕ) × (number_of text ≡ Some (float x)) × IsStart reported text)
IsFraction n reported = ⊥

-- a float equals a whole number within ±(2^53 - 1)
pub record EqualsWhole (x : Float) (z : ℤ) : Type 0 where
  pub part : whole_part x ≡ z
  pub safe : IsSafeInteger z
  pub equal : eq x (of_int binary64 z) ≡ true

-- a float is 0, with a minus
abbrev pub IsMinusZero : Num → Type 0
IsMinusZero (float x) = EqualsWhole x (pos 0) × (is_sign_negative x ≡ true)
IsMinusZero n = ⊥

-- a float equals a whole number, and isn't -0; JSON reads only a text with a point or an exponent so
abbrev pub IsMarked : Num → ℤ → Type 0
IsMarked (float x) z = EqualsWhole x z × (z ≡ pos 0 → is_sign_negative x ≡ false)
IsMarked n z = ⊥

-- a number lies beyond ±(2^53 - 1); no other float than a finite one is read
abbrev pub IsTooFar : Num → Type 0
IsTooFar (float x) = IsTrue (float_is_finite x) → IsSafeInteger (whole_part x) → ⊥
IsTooFar n = (z : ℤ) → SpellsWhole (number n) z → ⊥

-- why a number is no whole number of a script
abbrev pub IsAmiss : Num → Reason → Type 0
IsAmiss n (why.Fraction reported) = IsFraction n reported
IsAmiss n why.MinusZero = IsMinusZero n
IsAmiss n (why.PointOrExponent z) = IsMarked n z
IsAmiss n why.TooFar = IsTooFar n
IsAmiss n reason = ⊥

-- so is the number at a place where one is called for
abbrev pub HasAmiss : Data → Location → Reason → Type 0
HasAmiss root place reason =
    (n : Num) × Stands root place (number n) × IsAmiss n reason
    × ((w : Wanted) × CallsFor root place w × IsOf w (number n))

-- a string that is no BigInt, where an operand is called for
abbrev pub IsNoBigInt : Data → Location → Excerpt → Type 0
IsNoBigInt root place reported =
    CallsFor root place wanted.Operand
    × ((digits : List ℕ) × HasText root place reported digits × ((z : ℤ) → SpellsBig digits z → ⊥))

-- the kind that a view is reported to have
abbrev pub HasKind : Data → ℕ → Kind → Type 0
HasKind root i kind = Stands root (at.Part M.Views i M.Kind) (string (kind_name kind))

-- the length of the block that a view is reported to be on
abbrev pub HasBlockLen : Form → Data → ℕ → ℕ → Type 0
HasBlockLen Bytes root i len = Stands root (at.Member M.Bytes) (whole (pos len))
HasBlockLen Blocks root i len =
    (b : ℕ) × Stands root (at.Part M.Views i M.Block) (whole (pos b)) × Stands root (at.Item M.Blocks b) (whole (pos len))

abbrev pub IsOnLen : Data → ℕ → ℕ → Type 0
IsOnLen root i len = HasBlockLen (form_of root) root i len

-- n is so many times size
abbrev pub IsMultiple : ℕ → ℕ → Type 0
IsMultiple size n = (k : ℕ) × (n ≡ k * size)

-- a number below zero, where a view has its offset or its length
abbrev pub IsViewBelowZero : Data → Location → ℤ → Type 0
IsViewBelowZero root place n =
    ((i : ℕ) × ((place ≡ at.Part M.Views i M.Offset) ⊎ (place ≡ at.Part M.Views i M.Length)))
    × Stands root place (whole n) × (n <ℤ pos 0)

-- an offset that is no multiple of the size of an element
abbrev pub IsUneven : Data → Location → ℕ → Type 0
IsUneven root place size =
    (i : ℕ) × (place ≡ at.Part M.Views i M.Offset) × ((offset : ℕ) × Stands root place (whole (pos offset))
    × (IsMultiple size offset → ⊥)) × ((kind : Kind) × HasKind root i kind × (element_size kind ≡ size))

-- an offset beyond the end of its block
abbrev pub IsBehind : Data → Location → ℕ → Type 0
IsBehind root place len =
    (i : ℕ) × (place ≡ at.Part M.Views i M.Offset)
    × ((offset : ℕ) × Stands root place (whole (pos offset)) × (len < offset)) × IsOnLen root i len

-- a length that is greater than what there is room for behind the offset
pub record IsTooLong (root : Data) (place : Location) (n : ℤ) (most : ℕ) : Type 0 where
  pub i : ℕ
  pub is_place : place ≡ at.Part M.Views i M.Length
  pub stands : Stands root place (whole n)
  pub long : pos most <ℤ n
  pub kind : Kind
  pub has_kind : HasKind root i kind
  pub offset : ℕ
  pub has_offset : Stands root (at.Part M.Views i M.Offset) (whole (pos offset))
  pub len : ℕ
  pub on : IsOnLen root i len
  pub room : (offset ≤ len) × (most ≡ (len - offset) / element_size kind)

-- no length, and the length of the block is no multiple of the size of an element
abbrev pub IsUnevenBlock : Data → Location → ℕ → ℕ → Type 0
IsUnevenBlock root place len size =
    (i : ℕ) × (place ≡ at.Part M.Views i M.Length) × Stands root place null × IsOnLen root i len
    × (IsMultiple size len → ⊥) × ((kind : Kind) × HasKind root i kind × (element_size kind ≡ size))

abbrev pub IsMisfit : Data → Location → Misfit → Type 0
IsMisfit root place (misfit.BelowZero n) = IsViewBelowZero root place n
IsMisfit root place (misfit.Uneven size) = IsUneven root place size
IsMisfit root place (misfit.Behind len) = IsBehind root place len
IsMisfit root place (misfit.TooLong n most) = IsTooLong root place n most
IsMisfit root place (misfit.UnevenBlock len size) = IsUnevenBlock root place len size

-- where a position of one of them stands, and how many there are
abbrev pub IsCountedAt : Data → Location → Counted → ℕ → Type 0
IsCountedAt root place Agent count =
    ((k : ℕ) × ((place ≡ at.Item M.Schedule k) ⊎ (place ≡ at.Part M.Schedule k M.Timeout)))
    × HasItems root (at.Member M.Agents) count
IsCountedAt root place Block count =
    ((i : ℕ) × (place ≡ at.Part M.Views i M.Block)) × HasItems root (at.Member M.Blocks) count

-- a number that is the position of none of them
abbrev pub IsBeyond : Data → Location → Counted → ℤ → ℕ → Type 0
IsBeyond root place of n count =
    Stands root place (whole n) × ((k : ℕ) → k < count → n ≡ pos k → ⊥) × IsCountedAt root place of count

-- what is reported about the value at a place is true of the script; about memory nothing is reported
abbrev pub IsTrueAt : Data → Location → Reason → Type 0
IsTrueAt root place (why.Type w) = IsMistyped root place w
IsTrueAt root place (why.Missing m) = Lacks root place m
IsTrueAt root place (why.Surplus reported) = HasSurplus root place reported
IsTrueAt root place why.EmptyCall =
    ((i : ℕ) × (j : ℕ) × (place ≡ at.Call M.Agents i M.Calls j)) × Stands root place (array no_items)
IsTrueAt root place (why.TooMany of count most) = HasMany root place of count × (most ≡ limit_of of) × (most < count)
IsTrueAt root place (why.NameForm reported) = IsMisnamed root place reported
IsTrueAt root place (why.Twice reported v) = IsNameOf root place reported v
IsTrueAt root place (why.NoView reported) = NamesNoView root place reported
IsTrueAt root place (why.Fraction reported) = HasAmiss root place (why.Fraction reported)
IsTrueAt root place why.MinusZero = HasAmiss root place why.MinusZero
IsTrueAt root place (why.PointOrExponent z) = HasAmiss root place (why.PointOrExponent z)
IsTrueAt root place why.TooFar = HasAmiss root place why.TooFar
IsTrueAt root place (why.BelowZero n) = IsLenPlace place × Stands root place (whole n) × (n <ℤ pos 0)
IsTrueAt root place (why.NoBigInt reported) = IsNoBigInt root place reported
IsTrueAt root place (why.NoCall reported) = NamesNoCall root place reported
IsTrueAt root place (why.FewElements count least most) = HasFew root place count least most
IsTrueAt root place (why.ManyElements count most) = HasMore root place count most
IsTrueAt root place (why.NoKind reported) = NamesNoKind root place reported (λ name. (kind : Kind) → IsLike name kind → ⊥)
IsTrueAt root place (why.NearKind reported kind) = NamesNoKind root place reported (λ name. IsLike name kind)
IsTrueAt root place (why.Misfit m) = IsMisfit root place m
IsTrueAt root place (why.Beyond of n count) = IsBeyond root place of n count
IsTrueAt root place why.NoBlocks = (place ≡ at.Member M.Blocks) × Stands root place (array no_items)
IsTrueAt root place why.Memory = Unit {0}

-- a refusal is true of a script
abbrev pub IsTrueOf : Data → Located → Type 0
IsTrueOf root e = IsTrueAt root e.at e.why

-- it is true of each script in which this value stands at this place, and of which this is known
abbrev pub IsTrueWhere : Location → Data → (Data → Type 0) → Located → Type 0
IsTrueWhere place d Known e = (root : Data) → Stands root place d → Known root → IsTrueOf root e

-- a fault is that of a refusal which is true of the script
abbrev pub IsTrueFault : Data → ReadFault → Type 0
IsTrueFault root fault = (e : Located) × (fault_of e.why ≡ fault) × IsTrueOf root e
