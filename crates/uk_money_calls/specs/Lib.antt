pub mod MoneyCalls
