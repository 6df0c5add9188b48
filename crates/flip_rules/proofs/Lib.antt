mod Step3
