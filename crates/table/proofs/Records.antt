-- Records keep registers. The bytes are written place by place, and read back they give the registers: a counter is its low byte and 256 times its high byte,
-- and bit k of eight bits as a number is the bit at place k.
use mathlib.Core.Path.{◌≡◌, refl, ◌∙◌, sym, ap}
use mathlib.Core.Bool.{Bool, true, false}
use mathlib.Core.List.{List, [], ◌∷◌, ◌++◌}
use Prim.Native.Nat.{ℕ, zero, suc, ◌+◌, ◌*◌, ◌-◌, ◌/◌, ◌%◌, ◌^◌, ◌≤◌, ◌<◌}
use native.Mathlib.Nat.{div-div-eq-div-mul, pow-succ', mul-le-mul_right, mod-eq_of_lt, zero-mul}
use native.Mathlib.Numerals.{add-one}
use native.Mathlib.Omega.{arith}
use borrow.Author.Tests.{lt-ltb, le-ltb}
use lib.Dec.{eqb}
use lib.ListN.{length, get_or, take, drop, set, length-set, length-append, length-drop, get_or-append}
use lib.Seq.{get_or-drop, get_or-take, drop-drop, get_or-set_same, get_or-set_other, ext_get_or, length-take-le}
use Rattle.std.specs.Int.{from_bool, to_le_bytes, w16}
use Rattle.std.specs.Int.Bits.{bit_or, or_shifted_r}
use Rattle.std.specs.Simd.{first_chunks}
use Rattle.std.proofs.Common.{Option, below_more}
use Rattle.std.proofs.lemmas.List.{get_or-append_right}
use Rattle.std.proofs.lemmas.Nat.{pow_below}
use Rattle.ground.specs.Buffers.{byte_values}
use Rattle.ground.specs.Frames.{has_flag}
use Rattle.ground.specs.Limits.{limits}
use Rattle.sequencer.specs.declared.registers.Registers.{Registers}
use Rattle.table.specs.Inner.Records.{counter_size, byte_bits, counter_bytes, key_bytes, delay_in, bits_value, half_of, key_byte, Keeps, KeptBy}
use Rattle.table.specs.Inner.Records.{HasKey, CountersOf, DelaysOf, RegistersIn, LinkWritten, Written, link_size, link_at, link_place, frame_place, chain_place}

-- Of a row that is cut into arrays each is a part of the row
pub chunk_at : {A : Type 0} (size count : ℕ) (xs : List A) (n : ℕ) (d : List A) → n < count
    → get_or (first_chunks size count xs) n d ≡ take size (drop (n * size) xs)
chunk_at size zero xs n d h = absurd (omega arith)
chunk_at size (suc count) xs zero d h = rw zero-mul
chunk_at size (suc count) xs (suc n) d h =
    let next : size + n * size ≡ suc n * size = omega arith in
    rw (← next, ← drop-drop) (chunk_at size count (drop size xs) n d (omega arith))

-- Bits as numbers

byte_small : (b : Bool) → from_bool b ≤ 1
byte_small true = omega arith
byte_small false = omega arith

-- a bit is read back from its byte
byte_bit : (b : Bool) → eqb (from_bool b) 1 ≡ b
byte_bit true = refl
byte_bit false = refl

-- so many bits fit into so many
bits_small : (k : ℕ) (bits : List Bool) → bits_value k bits < 2 ^ k
unfolding bits_value
bits_small zero bits = omega arith
bits_small (suc k) bits = rw (pow-succ' 2 k) (omega (arith, bits_small k (drop 1 bits), byte_small (get_or bits 0 false)))

-- one bit more, which counts twice what the one before it counts
bits_more : (k : ℕ) (bits : List Bool) → bits_value (k + 1) bits ≡ from_bool (get_or bits k false) * 2 ^ k + bits_value k bits
unfolding bits_value
bits_more zero bits = omega arith
bits_more (suc k) bits =
    let next : 1 + k ≡ suc k = omega arith in
    let b = from_bool (get_or bits (suc k) false) in
    let own : get_or (drop 1 bits) k false ≡ get_or bits (suc k) false = rw (get_or-drop, next) in
    let more : bits_value (k + 1) (drop 1 bits) ≡ b * 2 ^ k + bits_value k (drop 1 bits) = rw own at (bits_more k (drop 1 bits)) in
    let twice : 2 * (b * 2 ^ k) ≡ b * (2 * 2 ^ k) = grind arith in
    let next_more = rw add-one at more in
    rw (add-one, pow-succ' 2 k) (omega (arith, next_more, twice))

-- a byte of the first bits with one more set in it
pub bits_set : (k : ℕ) (bits : List Bool) → k < byte_bits
    → bit_or (bits_value k bits) (from_bool (get_or bits k false) * 2 ^ k % byte_values) ≡ bits_value (k + 1) bits
bits_set k bits h =
    let b = from_bool (get_or bits k false) in
    let most : 2 ^ k < 2 ^ byte_bits = pow_below k byte_bits h in
    let one : b * 2 ^ k ≤ 1 * 2 ^ k = mul-le-mul_right (2 ^ k) (byte_small (get_or bits k false)) in
    let small : b * 2 ^ k < byte_values = omega arith in
    rw (mod-eq_of_lt small, or_shifted_r b k (bits_value k bits) (bits_small k bits), bits_more k bits)

-- bit k of a number of n bits is the bit at place k
bits_flag : (n : ℕ) (bits : List Bool) (k : ℕ) → k < n → has_flag k (bits_value n bits) ≡ get_or bits k false
unfolding bits_value has_flag
bits_flag zero bits k h = absurd (omega arith)
bits_flag (suc n) bits zero h =
    let b = get_or bits 0 false in
    let e : (from_bool b + 2 * bits_value n (drop 1 bits)) / 1 % 2 ≡ from_bool b = omega (arith, byte_small b) in
    rw e (byte_bit b)
bits_flag (suc n) bits (suc k) h =
    let b = get_or bits 0 false in
    let y = bits_value n (drop 1 bits) in
    let half : (from_bool b + 2 * y) / 2 ≡ y = omega (arith, byte_small b) in
    let e : (from_bool b + 2 * y) / 2 ^ suc k ≡ y / 2 ^ k = rw (pow-succ' 2 k, ← div-div-eq-div-mul (from_bool b + 2 * y) 2 (2 ^ k), half) in
    let next : 1 + k ≡ suc k = omega arith in
    let own : get_or (drop 1 bits) k false ≡ get_or bits (suc k) false = rw (get_or-drop, next) in
    rw (e, ← own) (bits_flag n (drop 1 bits) k (omega arith))

-- so many bits are those of a part of so many
bits_taken : (n : ℕ) (bits : List Bool) → bits_value n (take n bits) ≡ bits_value n bits
unfolding bits_value
bits_taken zero bits = refl
bits_taken (suc n) [] = refl
bits_taken (suc n) (b ∷ bits) = rw (bits_taken n bits)

-- The bytes of registers

module _ (r : Registers) where
  pub key_counter : (j : ℕ) → j < counter_bytes → key_byte r j ≡ half_of (get_or r.counters (j / counter_size) 0) (j % counter_size)
  unfolding key_byte
  key_counter j h = rw (lt-ltb j counter_bytes h)

  pub key_delays : (j : ℕ) → counter_bytes ≤ j → key_byte r j ≡ bits_value byte_bits (drop (byte_bits * (j - counter_bytes)) r.delays)
  unfolding key_byte
  key_delays j h = rw (le-ltb j counter_bytes h)

  -- a counter's two bytes
  key_low : (i : ℕ) → i < limits.counters → key_byte r (counter_size * i) ≡ get_or r.counters i 0 % byte_values
  key_low i h =
      let half : 2 * i / 2 ≡ i = omega arith in
      let even : 2 * i % 2 ≡ 0 = omega arith in
      rw (key_counter (2 * i) (omega arith), half, even)

  key_high : (i : ℕ) → i < limits.counters → key_byte r (counter_size * i + 1) ≡ get_or r.counters i 0 / byte_values
  key_high i h =
      let half : (2 * i + 1) / 2 ≡ i = omega arith in
      let odd : (2 * i + 1) % 2 ≡ 1 = omega arith in
      rw (key_counter (2 * i + 1) (omega arith), half, odd)

-- a counter's two bytes as `to_le_bytes` gives them
pub half_bytes : (counter which : ℕ) → counter < 2 ^ 16 → which < counter_size → get_or (to_le_bytes w16 counter) which 0 ≡ half_of counter which
half_bytes counter zero small less = refl
half_bytes counter (suc zero) small less = omega arith
half_bytes counter (suc (suc which)) small less = absurd (omega arith)

-- the delay bits that a byte keeps
pub delays_chunk : (delays : List Bool) (count n : ℕ) (d : List Bool) → n < count
    → bits_value byte_bits (get_or (first_chunks byte_bits count delays) n d) ≡ bits_value byte_bits (drop (byte_bits * n) delays)
delays_chunk delays count n d h =
    let place : n * byte_bits ≡ byte_bits * n = omega arith in
    rw (chunk_at byte_bits count delays n d h, bits_taken, place)

-- One delay bit more is read
pub delays_more : {bytes : List ℕ} {delays : List Bool} {n : ℕ} → DelaysOf bytes delays n → n < limits.delays
    → (v : Bool) → v ≡ delay_in bytes n → DelaysOf bytes (set delays n v) (n + 1)
delays_more {bytes} {delays} {n} k h v e =
    record {
      all = length-set delays n v ∙ k.all;
      own = below_more (λ i. get_or (set delays n v) i false ≡ delay_in bytes i) n
          (λ i l. get_or-set_other delays n i v false (λ q. absurd (omega arith)) ∙ k.own i l)
          (get_or-set_same delays n v false (omega (arith, k.all)) ∙ e);
    }

-- What is read is what is kept

module _ {bytes : List ℕ} {kept : Registers} (k : Keeps bytes kept) where
  -- its counters and delay bits are those that are read
  counters_own : CountersOf bytes kept.counters limits.counters
  counters_own =
      record {
        all = k.whole.counters;
        own = λ i h.
            let low = k.own (counter_size * i) (omega arith) ∙ key_low kept i h in
            let high = k.own (counter_size * i + 1) (omega arith) ∙ key_high kept i h in
            omega (arith, low, high);
      }

  delays_own : DelaysOf bytes kept.delays limits.delays
  delays_own = record { all = k.whole.delays; own = delay }
    where
      delay : (i : ℕ) → i < limits.delays → get_or kept.delays i false ≡ delay_in bytes i
      delay i h =
          let place = counter_bytes + i / byte_bits in
          let start = byte_bits * (place - counter_bytes) in
          let here : start + i % byte_bits ≡ i = omega arith in
          let byte = k.own place (omega arith) ∙ key_delays kept place (omega arith) in
          let bit = bits_flag byte_bits (drop start kept.delays) (i % byte_bits) (omega arith) in
          rw (byte, bit, get_or-drop, here)

  keeps_in : RegistersIn bytes kept
  keeps_in = record { counters = counters_own; delays = delays_own }

-- Bytes have one value of the registers in them

module _ {bytes : List ℕ} {r s : Registers} (h : RegistersIn bytes r) (k : RegistersIn bytes s) where
  counters_one : r.counters ≡ s.counters
  counters_one =
      let a = h.counters in
      let b = k.counters in
      ext_get_or 0 r.counters s.counters (a.all ∙ sym b.all)
      (λ i l. let inside : i < limits.counters = omega (arith, a.all) in a.own i inside ∙ sym (b.own i inside))

  delays_one : r.delays ≡ s.delays
  delays_one =
      let a = h.delays in
      let b = k.delays in
      ext_get_or false r.delays s.delays (a.all ∙ sym b.all)
      (λ i l. let inside : i < limits.delays = omega (arith, a.all) in a.own i inside ∙ sym (b.own i inside))

  pub registers_one : r ≡ s
  registers_one = λ i. record { counters = counters_one i; delays = delays_one i }

pub kept_by : {bytes : List ℕ} {r : Registers} → RegistersIn bytes r → KeptBy bytes r
kept_by read kept k = registers_one read (keeps_in k)

-- bytes keep one value of the registers
pub keeps_one : (bytes : List ℕ) (r s : Registers) → Keeps bytes r → Keeps bytes s → r ≡ s
keeps_one bytes r s h k = registers_one (keeps_in h) (keeps_in k)

-- Bytes have a key in front exactly if so many of them are the key
pub key_front : (key bytes : List ℕ) → length key ≡ key_bytes → key_bytes ≤ length bytes
    → (take key_bytes bytes ≡ key → HasKey key bytes) × (HasKey key bytes → take key_bytes bytes ≡ key)
key_front key bytes whole long =
    let taken = length-take-le key_bytes bytes long in (
      λ e j h. sym (get_or-take key_bytes bytes j 0 h) ∙ ap (λ x. get_or x j 0) e,
      λ has. ext_get_or 0 (take key_bytes bytes) key (taken ∙ sym whole) (λ i h.
          let inside : i < key_bytes = omega (arith, taken) in
          get_or-take key_bytes bytes i 0 inside ∙ has i inside),
    )

-- Bytes with a key in front keep what the key keeps
pub key_kept : {r : Registers} {key bytes : List ℕ} → Keeps key r → HasKey key bytes → Keeps bytes r
key_kept k same = record { whole = k.whole; own = λ j h. same j h ∙ k.own j h }

-- and bytes that keep it have the key in front
pub kept_key : {r : Registers} {key bytes : List ℕ} → Keeps key r → Keeps bytes r → HasKey key bytes
kept_key k keeps j h = keeps.own j h ∙ sym (k.own j h)

-- Equal bytes give equal links
pub link_same : (at : ℕ) (a c : List ℕ) → ((j : ℕ) → at ≤ j → j < at + link_size → get_or a j 0 ≡ get_or c j 0) → link_at at a ≡ link_at at c
link_same at a c same = rw (same at (omega arith) (omega arith), same (at + 1) (omega arith) (omega arith), same (at + 2) (omega arith) (omega arith))

-- A record is written: a key in front, then the link, the frame byte, and the record before it in its bucket
pub written : {key before linked after : List ℕ} {link chain : Option ℕ} {frame : ℕ} → length key ≡ key_bytes → length before ≡ limits.record_bytes
    → LinkWritten link_place link (key ++ drop key_bytes before) linked → LinkWritten chain_place chain (set linked frame_place frame) after
    → Written key link frame chain before after
written {key} {before} {linked} {after} {frame = frame} whole long l c =
    let rest = drop key_bytes before in
    let all : length (key ++ rest) ≡ length before = rw (length-append, length-drop) (omega arith) in
    let set_other : (j : ℕ) → (j ≡ frame_place → ⊥) → get_or (set linked frame_place frame) j 0 ≡ get_or linked j 0 = λ j h.
    get_or-set_other linked frame_place j frame 0 h in
    let under : (j : ℕ) → j < frame_place → get_or after j 0 ≡ get_or linked j 0 = λ j h. c.below j (omega arith) ∙ set_other j (λ q. absurd (omega arith)) in
    record {
      own_key = λ j h. under j (omega arith) ∙ l.below j h ∙ get_or-append key rest 0 j (omega arith);
      own_link = link_same link_place after linked (λ j low high. under j (omega arith)) ∙ l.own;
      own_frame = c.below frame_place (omega arith) ∙ get_or-set_same linked frame_place frame 0 (omega (arith, l.same, all));
      own_chain = c.own;
      behind = λ j h. c.behind j (omega arith) ∙ set_other j (λ q. absurd (omega arith)) ∙ l.behind j (omega arith)
          ∙ get_or-append_right key rest key_bytes j 0 whole (omega arith) ∙ get_or-drop key_bytes before (j - key_bytes) 0
          ∙ ap (λ x. get_or before x 0) (omega arith);
      same = c.same ∙ length-set linked frame_place frame ∙ l.same ∙ all;
    }
