-- What the parts of `search` come to is a right answer: exploring ends with one by the code's output, and the output of a rule's code is the rule's meaning.
use mathlib.Core.Path.{◌≡◌, refl, sym, ap, subst, ◌∙◌}
use mathlib.Core.Bool.{true, false}
use mathlib.Core.List.{List, ◌∷◌}
use mathlib.Core.Logic.{◌↔◌, by_cases}
use Prim.Native.Nat.{ℕ, ◌+◌, ◌*◌, ◌-◌, ◌/◌, ◌≤◌, ◌<◌}
use native.Mathlib.Decide.{dec_le, dec_lt}
use native.Mathlib.Numerals.{add-one}
use native.Mathlib.Omega.{arith}
use borrow.Author.Tests.{lt-ltb, le-ltb}
use borrow.Rule.Slice.PartMut.{mid_of, mid_len}
use lib.ListN.{length, get_or, take, drop, replicate, length-take, length-replicate, get_or-replicate, get_or-eq_default}
use lib.Seq.{get_or-take}
use Rattle.std.proofs.Common.{Some, None, Result, Ok, Err}
use Rattle.ground.specs.Buffers.{AllBytes}
use Rattle.ground.specs.Each.{Each}
use Rattle.ground.specs.Frames.{Clip}
use Rattle.ground.specs.Limits.{limits}
use Rattle.ground.specs.declared.refusal.Refusal.{Refusal}
use Rattle.rules.specs.Accepted.{IsRule, InRange}
use Rattle.rules.specs.Formula.{Formula, horizon}
use Rattle.rules.specs.Items.{postfix}
use Rattle.rules.specs.Loading.{Items, accepted, refused, read_rule, loaded_of}
use Rattle.rules.specs.Meaning.{Holds, holds}
use Rattle.rules.proofs.Accepted.{loaded_refused}
use Rattle.rules.proofs.Agreement.{agreement}
use Rattle.rules.proofs.Horizon.{first_frames}
use Rattle.sequencer.specs.After.{steps_over}
use Rattle.sequencer.specs.Bits.{output}
use Rattle.code.specs.Programs.{Sound, code_held}
use Rattle.code.specs.Code.{Code}
use Rattle.emitter.specs.Prepare.{prepared_of}
use Rattle.emitter.specs.Translation.{code_for}
use Rattle.emitter.specs.declared.prepare.Prepared.{Prepared}
use Rattle.emitter.proofs.Preparing.{PreparedFor, prepared_for, prepared_refused}
use Rattle.emitter.proofs.Wires.{output_holds}
use Rattle.paths.specs.Answers.{First, Answer, met, none, Right}
use Rattle.table.proofs.Tables.{indexed_none}
use Rattle.paths.proofs.Order.{shorter_less}
use Rattle.paths.proofs.Unique.{first_alike, right_alike}
use Rattle.finder.specs.Inner.Explore.{Outputs, CanExplore, Met}
use Rattle.table.specs.Room.{room_of}
use Rattle.finder.specs.Search.{found_of, witness_after, Answers, short_witness, SearchSays}
use Rattle.table.specs.Inner.Records.{room_in}
use Rattle.finder.specs.Inner.Search.{Showing, CanSearch, SearchedIn, AnswersBy}
use Rattle.finder.specs.declared.explore.Trial.{Trial}
use Rattle.finder.specs.declared.search.Found.{Found}

-- The table's records lie within it
pub room_fits : (table : List ℕ) → (room_of table * limits.record_bytes ≤ length table) × (room_of table ≤ limits.records)
unfolding room_of
room_fits table = (omega arith, omega arith)

-- In a table of zeros every byte is 0
zeros : (size j : ℕ) → ◌≡◌ {A = ℕ} (get_or (replicate size 0) j 0) 0
zeros size j =
    by_cases (dec_lt j size) (get_or-replicate size j 0 0) λ h. get_or-eq_default (replicate size 0) 0 {n = j} (omega (arith, length-replicate {A = ℕ} size 0))

-- A table that is all zero, and its records, as lending writes them
module _ (table cleared : List ℕ) (zero : cleared ≡ replicate (length table) 0) (size : ℕ) (own : size ≡ room_of table * limits.record_bytes) where
  abbrev records : List ℕ
  records = mid_of 0 (size - 0) cleared

  cleared_size : length cleared ≡ length table
  cleared_size = rw zero (length-replicate (length table) 0)

  pub records_fit : size ≤ length cleared
  records_fit = omega (arith, (room_fits table).0, cleared_size)

  records_size : length records ≡ size
  records_size = omega (arith, mid_len 0 size cleared records_fit)

  records_room : room_in records ≡ room_of table
  records_room = omega (arith, records_size)

  records_zero : (j : ℕ) → get_or records j 0 ≡ 0
  records_zero j =
      by_cases (dec_lt j size) (λ h. get_or-take (size - 0) (drop 0 cleared) j 0 (omega arith) ∙ rw zero (zeros (length table) j)) λ h.
      get_or-eq_default records 0 {n = j} (omega (arith, records_size))

  -- their index is empty
  pub can_explore : (code : Code) → Sound code → CanExplore code records
  can_explore code sound =
      record {
        sound = sound;
        holds = record { whole = omega (arith, records_size, records_room); most = rw records_room (room_fits table).1 };
        indexed = indexed_none records records_zero;
      }

-- What exploring ends with is a right answer
module _ (code : Code) (table witness after : List ℕ) (same : length after ≡ length table) where
  module _ (r : Result Found Refusal) (witness' : List ℕ) where
    found : (answer : Answer) → Right (steps_over code) (Outputs code) (room_in after) answer → r ≡ found_of answer → witness' ≡ witness_after answer witness
        → SearchedIn code table witness r witness'
    found answer right says left =
        record {
          answer = answer;
          right = subst (λ size. Right (steps_over code) (Outputs code) (size / limits.record_bytes) answer) same right;
          own_answer = says;
          own_witness = left;
        }

  pub finds_met : (trial : Trial) (states : ℕ) → Met code after trial states → (n : ℕ) (witness' : List ℕ) → Showing after trial witness witness' n
      → SearchedIn code table witness (Ok (record { length = Some n; states = states })) witness'
  finds_met trial states t n witness' shown =
      let (long, written) = shown t.clip t.shows in
      let says = ap (λ l. Ok (record { length = Some l; states = states })) (long ∙ add-one (length t.clip)) in
      found _ _ (met (trial.frame ∷ t.clip) states) t.right says written

  pub finds_none : (states : ℕ) → Right (steps_over code) (Outputs code) (room_in after) (none states)
      → SearchedIn code table witness (Ok (record { length = None; states = states })) witness
  finds_none states right = found _ _ (none states) right refl refl

-- A rule's code has the output 1 on just the clips that satisfy the rule
pub hits_holds : (f : Formula) → Each InRange (postfix f) → (c : Clip) → Outputs (code_for f) c ↔ Holds f c
hits_holds f ranges c =
    let e : output (code_for f) c ≡ holds f c = ap (λ w. w c) (output_holds f ranges) in
    (λ h. (agreement f c).0 (sym e ∙ h), λ h. e ∙ (agreement f c).1 h)

take_bytes : (n : ℕ) (c : Clip) → AllBytes c → AllBytes (take n c)
take_bytes n c bytes i =
    by_cases (dec_lt i n) (λ h. rw (get_or-take n c i 0 h) (bytes i)) λ h.
    rw (get_or-eq_default (take n c) 0 {n = i} (omega (arith, length-take n c))) (omega arith)

-- The first clip that satisfies a rule has at most horizon + 1 frames: else its first frames satisfy it too
pub first_short : (f : Formula) (c : Clip) → First (Holds f) c → length c ≤ horizon f + 1
first_short f c first =
    by_cases (dec_le (length c) (horizon f + 1)) (λ h. h) λ h.
    let long : horizon f < length c = omega arith in
    let cut = length-take (horizon f + 1) c in
    absurd (first.first (take (horizon f + 1) c)
    (record {
      bytes = take_bytes (horizon f + 1) c first.satisfying.bytes;
      some = omega (arith, cut);
      meets = (first_frames f c long).0 first.satisfying.meets;
    })
    (shorter_less _ _ (omega (arith, cut))))

-- The code of an accepted rule: the search by it is the search for the rule
module _ (rule : List ℕ) (is : Items) (f : Formula) (is_rule : IsRule rule is f) where
  alike : (c : Clip) → Outputs (code_for f) c ↔ Holds f c
  alike c = hits_holds f (rw is_rule.own_items at is_rule.ranges) c

  rule_suffices : (witness : List ℕ) → horizon f + 1 ≤ length witness → (c : Clip) → First (Outputs (code_for f)) c → length c ≤ length witness
  rule_suffices witness long c first =
      omega (arith, first_short f c (first_alike (Outputs (code_for f)) (Holds f) (λ x d. alike (x ∷ d)) c first))

  rule_answers : (table witness : List ℕ) (r : Result Found Refusal) (table' witness' : List ℕ) → AnswersBy (code_for f) table witness r table' witness'
      → Answers (code_for f) (Holds f) table witness r table' witness'
  rule_answers table witness r table' witness' a =
      let steps = steps_over (code_for f) in
      record {
        answer = a.answer;
        right = right_alike steps steps (Outputs (code_for f)) (Holds f) _ a.answer (λ c. refl) (λ x c. alike (x ∷ c)) a.right;
        own_answer = a.own_answer;
        own_table = a.own_table;
        own_witness = a.own_witness;
      }

-- What `search` says of a rule that loading refuses: nothing changes
module _ (rule table witness : List ℕ) (r : Refusal) where
  refusal_said : read_rule rule ≡ refused r → SearchSays (read_rule rule) table witness (Err r) table witness
  refusal_said e = rw e (record { own_answer = refl; own_table = refl; own_witness = refl })

  pub says_refused : Err r ≡ loaded_of (read_rule rule) → SearchSays (read_rule rule) table witness (Err r) table witness
  says_refused e = refusal_said (loaded_refused (read_rule rule) r e)

  pub says_unprepared : Err r ≡ prepared_of (read_rule rule) → SearchSays (read_rule rule) table witness (Err r) table witness
  says_unprepared e = refusal_said (prepared_refused (read_rule rule) r e)

-- What is prepared of an accepted rule tells its horizon
prepared_horizon : (p : Prepared) (is : Items) (f : Formula) → Ok p ≡ prepared_of (accepted is f) → p.loaded.horizon ≡ horizon f
unfolding prepared_of
prepared_horizon p is f e =
    let own : p.loaded ≡ record { items = length is; horizon = horizon f } = cc in
    rw own

-- What `search` says of a rule that is prepared
module _ (rule : List ℕ) (p : Prepared) (own : Ok p ≡ prepared_of (read_rule rule)) (small : AllBytes rule) where
  for : PreparedFor rule p
  for = prepared_for rule p small own

  near : p.loaded.horizon ≡ horizon for.formula
  near = prepared_horizon p for.items for.formula (rw for.read at own)

  pub says_short : (witness : List ℕ) → length witness ≤ p.loaded.horizon → (table : List ℕ)
      → SearchSays (read_rule rule) table witness (Err Refusal.ShortWitness) table witness
  says_short witness short table =
      let l : short_witness for.formula witness ≡ true = lt-ltb (length witness) (horizon for.formula + 1) (omega (arith, near)) in
      rw (for.read, l) (record { own_answer = refl; own_table = refl; own_witness = refl })

  module _ (witness : List ℕ) (long : p.loaded.horizon < length witness) where
    pub can_search : CanSearch (code_held p.program) witness
    can_search =
        record {
          sound = for.sound;
          room = rw for.own_code (rule_suffices rule for.items for.formula for.is_rule witness (omega (arith, near)));
        }

    pub says_answers : (table : List ℕ) (r : Result Found Refusal) (table' witness' : List ℕ) → AnswersBy (code_held p.program) table witness r table' witness'
        → SearchSays (read_rule rule) table witness r table' witness'
    says_answers table r table' witness' answers =
        let l : short_witness for.formula witness ≡ false = le-ltb (length witness) (horizon for.formula + 1) (omega (arith, near)) in
        let by_code = rw for.own_code at answers in
        rw (for.read, l) (rule_answers rule for.items for.formula for.is_rule table witness r table' witness' by_code)

-- What it says of an accepted rule and a witness buffer that is long enough is a right answer
pub answers_said : (rule table witness : List ℕ) (is : Items) (f : Formula) → read_rule rule ≡ accepted is f → horizon f + 1 ≤ length witness
    → (r : Result Found Refusal) (table' witness' : List ℕ) → SearchSays (read_rule rule) table witness r table' witness'
    → Answers (code_for f) (Holds f) table witness r table' witness'
answers_said rule table witness is f reads long r table' witness' says =
    let l : short_witness f witness ≡ false = le-ltb (length witness) (horizon f + 1) long in
    rw (reads, l) at says
