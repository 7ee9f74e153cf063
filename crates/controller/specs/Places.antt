-- Octets and other elements at the front of a lent place.
use Rattle.std.specs.Prelude.{ℕ, cond, List, [], ◌++◌, length, take, drop, nat_le}

-- what a place holds once elements were put at its front, as many as it has room for: the surplus stays
abbrev pub laid : {X : Type 0} → List X → List X → List X
laid xs place = take (length place) xs ++ drop (length xs) place

-- what a place holds once octets were put at its front, for which it has room: the surplus stays
abbrev pub put_front : List ℕ → List ℕ → List ℕ
put_front o place = o ++ drop (length o) place

-- the octets, if a place has room for all of them, and else none
abbrev pub fitting : List ℕ → List ℕ → List ℕ
fitting o place = cond (nat_le (length o) (length place)) o []
