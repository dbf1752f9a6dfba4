-- Keys and their buckets: a key's hash is that of its parts, each of four bytes, so that a record with the key's bytes in front falls into the key's bucket.
use mathlib.Core.Path.{◌≡◌, refl}
use mathlib.Core.List.{List}
use Prim.Native.Nat.{ℕ, zero, suc, ◌+◌, ◌*◌, ◌/◌, ◌%◌, ◌^◌, ◌≤◌, ◌<◌}
use native.Mathlib.Nat.{add-zero, add_assoc, mul_comm, mul-lt-mul_of_pos_right, div-lt_iff_lt-mul}
use native.Mathlib.Numerals.{add-one}
use native.Mathlib.Omega.{arith}
use lib.ListN.{get_or, take, drop}
use lib.Seq.{get_or-drop, get_or-take}
use Rattle.std.proofs.lemmas.Nat.{mul-mod_first}
use Rattle.std.specs.Int.{from_le_bytes, rotate_right, w32}
use Rattle.std.specs.Int.Bits.{or_shifted_r}
use Rattle.std.specs.Simd.{first_chunks}
use Rattle.sequencer.specs.declared.registers.Registers.{Registers}
use Rattle.table.specs.Inner.Index.{part_bytes, hashes, factor, turn_bits, turned, stirred, value_of, part_of, hashed, bucket_of}
use Rattle.table.specs.Inner.Records.{key_bytes, byte_at, Keeps}
use Rattle.table.proofs.Records.{kept_key, chunk_at}

-- The hash

-- a turn by so many bits
turned_right : (hash : ℕ) → hash < hashes → rotate_right w32 hash turn_bits ≡ turned hash
turned_right hash h =
    let low = hash % 2 ^ turn_bits in
    let up : hash * 2 ^ 15 % 2 ^ 32 ≡ low * 2 ^ 15 = omega arith in
    rw (up, or_shifted_r low 15 (hash / 2 ^ turn_bits) (omega arith)) (omega arith)

-- one part more, as `rotate_right`, `wrapping_add` and `wrapping_mul` take it
pub stirred_in : (hash part : ℕ) → hash < hashes → (rotate_right w32 hash turn_bits + part) % hashes * factor % hashes ≡ stirred hash part
unfolding stirred
stirred_in hash part h = rw (turned_right hash h) (mul-mod_first _ _ _)

-- a part as `as_chunks` and `from_le_bytes` give it
pub part_chunk : (key : List ℕ) (count i : ℕ) (d : List ℕ) → i < count
    → from_le_bytes w32 (get_or (first_chunks part_bytes count key) i d) ≡ part_of (byte_at key) i
unfolding value_of
part_chunk key count i d h =
    let byte : (k : ℕ) → k < part_bytes → get_or (take part_bytes (drop (i * part_bytes) key)) k 0 ≡ get_or key (part_bytes * i + k) 0 = λ k l.
    let place : i * part_bytes + k ≡ part_bytes * i + k = omega arith in
    rw (get_or-take part_bytes (drop (i * part_bytes) key) k 0 l, get_or-drop (i * part_bytes) key k 0, place) in
    let first = rw add-zero at (byte 0 (omega arith)) in
    rw (chunk_at part_bytes count key i d h) (simp add_assoc (omega (arith, first, byte 1 (omega arith), byte 2 (omega arith), byte 3 (omega arith))))

-- one part more
pub hashed_more : (n : ℕ) (part : ℕ → ℕ) → hashed (n + 1) part ≡ stirred (hashed n part) (part n)
unfolding hashed
hashed_more n part = rw add-one

-- the bucket is one of the buckets
pub bucket_below : (hash buckets : ℕ) → hash < hashes → 1 ≤ buckets → hash * buckets / hashes < buckets
bucket_below hash buckets h k = (div-lt_iff_lt-mul {k = hashes} {x = hash * buckets} {y = buckets} (omega arith)).1
    (rw (mul_comm buckets hashes) (mul-lt-mul_of_pos_right h k))

-- The same bytes fall into the same bucket

value_alike : (n : ℕ) (f g : ℕ → ℕ) (at : ℕ) → ((k : ℕ) → k < n → f (at + k) ≡ g (at + k)) → value_of n f at ≡ value_of n g at
unfolding value_of
value_alike zero f g at same = refl
value_alike (suc n) f g at same =
    let here : f at ≡ g at = rw add-zero at (same 0 (omega arith)) in
    let rest = value_alike n f g (at + 1) (λ k h. let next : at + suc k ≡ at + 1 + k = omega arith in rw next at (same (suc k) (omega arith))) in
    rw (here, rest)

hashed_alike : (n : ℕ) (f g : ℕ → ℕ) → ((i : ℕ) → i < n → f i ≡ g i) → hashed n f ≡ hashed n g
unfolding hashed
hashed_alike zero f g same = refl
hashed_alike (suc n) f g same = rw (hashed_alike n f g (λ i h. same i (omega arith)), same n (omega arith))

pub bucket_same : (buckets : ℕ) (a c : List ℕ) → ((j : ℕ) → j < key_bytes → get_or a j 0 ≡ get_or c j 0)
    → bucket_of buckets (byte_at a) ≡ bucket_of buckets (byte_at c)
unfolding bucket_of
bucket_same buckets a c same =
    rw (hashed_alike (key_bytes / part_bytes) (part_of (byte_at a)) (part_of (byte_at c))
    (λ i h. value_alike part_bytes (byte_at a) (byte_at c) (part_bytes * i) (λ k l. same (part_bytes * i + k) (omega arith))))

-- Bytes that keep the registers of a key fall into the key's bucket
pub key_bucket : (r : Registers) (key : List ℕ) → Keeps key r → (bytes : List ℕ) (buckets : ℕ) → Keeps bytes r
    → bucket_of buckets (byte_at bytes) ≡ bucket_of buckets (byte_at key)
key_bucket r key k bytes buckets keeps = bucket_same buckets bytes key (kept_key k keeps)
