pub mod OptionsInCode
