-- The parts of a message: its type and code, its checksum, and what stands after them.
use Rattle.std.proofs.Common.{◌≡◌, ℕ, Bool, true, false, List, [], ◌∷◌, ◌++◌, length, refl, cond, eqb}
use Rattle.byteorder.specs.Endian.{big_bytes}
use Rattle.field_rows.specs.Row.{Field, field, rows}
use Rattle.process_packet.specs.declared.decision.Problem.{Problem}
use Rattle.scion_packet.specs.Header.{HostAddress}
use Rattle.scmp_answer.specs.Message.{fixed_len, parameter_problem_table, table_of, traceroute_reply_table, unreachable_table}

len_of : (x y : Bool) (a b c : List (List Field)) → length (rows a) ≡ 24 → length (rows b) ≡ 8 → length (rows c) ≡ 8
    → length (rows (cond x a (cond y b c))) ≡ cond x 24 8
len_of true y a b c e0 e1 e2 = e0
len_of false true a b c e0 e1 e2 = e1
len_of false false a b c e0 e1 e2 = e2

pub table_len : (here : HostAddress) (n : ℕ × ℕ) (p : Problem) (c : ℕ) → length (rows (table_of here n p c)) ≡ fixed_len p
table_len here n p c =
    len_of (eqb p.kind 131) (eqb p.kind 1) (traceroute_reply_table here n.0 n.1 p.pointer c) (unreachable_table p.code c) (parameter_problem_table p.code p.pointer c) refl refl refl

unfoldable type_and_code : Bool → Bool → ℕ → List ℕ
type_and_code true y code = big_bytes 1 131 ++ big_bytes 1 0
type_and_code false true code = big_bytes 1 1 ++ big_bytes 1 code
type_and_code false false code = big_bytes 1 4 ++ big_bytes 1 code

unfoldable rest_of : Bool → Bool → HostAddress → ℕ × ℕ → ℕ → List ℕ
rest_of true y here n pointer =
    rows ((field 16 n.0 ∷ []) ∷ (field 16 n.1 ∷ []) ∷ (field 16 here.isd ∷ []) ∷ (field 48 here.autonomous_system ∷ []) ∷ (field 64 pointer ∷ []) ∷ [])
rest_of false true here n pointer = rows ((field 32 0 ∷ []) ∷ [])
rest_of false false here n pointer = rows ((field 16 0 ∷ []) ∷ (field 16 pointer ∷ []) ∷ [])

parts_of : (x y : Bool) (here : HostAddress) (n : ℕ × ℕ) (code pointer c : ℕ)
    → rows (cond x (traceroute_reply_table here n.0 n.1 pointer c) (cond y (unreachable_table code c) (parameter_problem_table code pointer c)))
    ≡ type_and_code x y code ++ (big_bytes 2 c ++ rest_of x y here n pointer)
unfolding type_and_code rest_of
parts_of true y here n code pointer c = refl
parts_of false true here n code pointer c = refl
parts_of false false here n code pointer c = refl

two_bytes : (x y : Bool) (code : ℕ) → length (type_and_code x y code) ≡ 2
unfolding type_and_code
two_bytes true y code = refl
two_bytes false true code = refl
two_bytes false false code = refl

-- The checksum stands after the first two bytes.
pub record Parts (here : HostAddress) (n : ℕ × ℕ) (p : Problem) : Type 0 where
  pub first : List ℕ
  pub rest : List ℕ
  pub two : length first ≡ 2
  pub are : (c : ℕ) → rows (table_of here n p c) ≡ first ++ (big_bytes 2 c ++ rest)

pub parts : (here : HostAddress) (n : ℕ × ℕ) (p : Problem) → Parts here n p
parts here n p =
    let x = eqb p.kind 131 in
    let y = eqb p.kind 1 in
    record {
      first = type_and_code x y p.code;
      rest = rest_of x y here n p.pointer;
      two = two_bytes x y p.code;
      are = λ c. parts_of x y here n p.code p.pointer c;
    }
