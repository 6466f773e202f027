-- What is at the front of the bytes that came.
use Rattle.std.specs.Prelude.{ℕ, ◌≤◌, ◌+◌, ⊤, ◌&&◌, Bool, true, nat_lt, List, [], ◌∷◌, length, take, Option, Some, None, if◌then◌else◌}
use Rattle.wgsl_server_protocol.specs.Heads.{head_end, length_in}
use Rattle.wgsl_server_protocol.specs.declared.front.Front.{Front}
use Rattle.wgsl_server_protocol.specs.declared.front.Front.TheVariants as front

-- how many bytes the fields have at most
abbrev pub longest_head : ℕ
longest_head = 4096

abbrev pub all_ascii : List ℕ → Bool
all_ascii [] = true
all_ascii (b ∷ bs) = nat_lt b 128 && all_ascii bs

-- the length that fields give, which are in ASCII
abbrev pub length_at : List ℕ → Option ℕ
length_at head = if all_ascii head then length_in head else None

-- after fields that end at `start` and give a length
abbrev pub front_after : ℕ → List ℕ → ℕ → Option ℕ → Front
front_after most bytes start None = front.Malformed start
front_after most bytes start (Some size) =
    if nat_lt most size then front.TooLarge start size
    else if nat_lt (length bytes) (start + size) then front.Partial
    else front.Whole start (start + size)

abbrev pub front_by : ℕ → List ℕ → Option ℕ → Front
front_by most bytes None = if nat_lt longest_head (length bytes) then front.Malformed (length bytes) else front.Partial
front_by most bytes (Some start) = front_after most bytes start (length_at (take start bytes))

-- what is at the front, where a message has at most so many bytes
abbrev pub front_of : ℕ → List ℕ → Front
front_of most bytes = front_by most bytes (head_end bytes)

-- what is at the front is in so many bytes
abbrev pub IsWithin : Front → ℕ → Type 0
IsWithin front.Partial total = ⊤
IsWithin (front.Whole start end) total = (start ≤ end) × (end ≤ total)
IsWithin (front.Malformed end) total = end ≤ total
IsWithin (front.TooLarge start size) total = start ≤ total
